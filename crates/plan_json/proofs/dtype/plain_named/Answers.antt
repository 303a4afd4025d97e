use Rattle.plan_json.proofs.Names.{ap, arith, bytes_eq, codes, false, rules, sym, ◌≡◌}
use Rattle.std.proofs.lemmas.Slice.Eq.{text_from_reads}
use Rattle.plan_json.specs.Leaves.{plain_named}
use Rattle.plan_json.proofs.NameLemmas.{other_text, no_plain}
use Rattle.plan_json.proofs.dtype.plain_named.Goals as goal

pub returns-in-Null : goal.returns-in-Null
returns-in-Null c = ap plain_named (sym (text_from_reads c.args.name.now (codes "Null") (omega arith) (search rules)))

pub returns-in-Boolean : goal.returns-in-Boolean
returns-in-Boolean c = ap plain_named (sym (text_from_reads c.args.name.now (codes "Boolean") (omega arith) (search rules)))

pub returns-in-String : goal.returns-in-String
returns-in-String c = ap plain_named (sym (text_from_reads c.args.name.now (codes "String") (omega arith) (search rules)))

pub returns-in-Date : goal.returns-in-Date
returns-in-Date c = ap plain_named (sym (text_from_reads c.args.name.now (codes "Date") (omega arith) (search rules)))

pub returns-in-Time : goal.returns-in-Time
returns-in-Time c = ap plain_named (sym (text_from_reads c.args.name.now (codes "Time") (omega arith) (search rules)))

pub returns-in_default : goal.returns-in_default
returns-in_default c =
    let name = c.args.name.now in
    let null : bytes_eq name (codes "Null") ≡ false = other_text name (codes "Null") (λ (e : name ≡ codes "Null"). grind arith) in
    let boolean : bytes_eq name (codes "Boolean") ≡ false = other_text name (codes "Boolean") (λ (e : name ≡ codes "Boolean"). grind arith) in
    let string : bytes_eq name (codes "String") ≡ false = other_text name (codes "String") (λ (e : name ≡ codes "String"). grind arith) in
    let date : bytes_eq name (codes "Date") ≡ false = other_text name (codes "Date") (λ (e : name ≡ codes "Date"). grind arith) in
    let time : bytes_eq name (codes "Time") ≡ false = other_text name (codes "Time") (λ (e : name ≡ codes "Time"). grind arith) in
    no_plain name null boolean string date time
