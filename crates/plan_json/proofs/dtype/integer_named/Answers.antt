use Rattle.plan_json.proofs.Names.{ap, arith, bytes_eq, codes, false, rules, sym, ◌≡◌}
use Rattle.std.proofs.lemmas.Slice.Eq.{text_from_reads}
use Rattle.plan_json.specs.Leaves.{integer_named}
use Rattle.plan_json.proofs.NameLemmas.{other_text, no_integer}
use Rattle.plan_json.proofs.dtype.integer_named.Goals as goal

pub returns-in-Int8 : goal.returns-in-Int8
returns-in-Int8 c = ap integer_named (sym (text_from_reads c.args.name.now (codes "Int8") (omega arith) (search rules)))

pub returns-in-Int16 : goal.returns-in-Int16
returns-in-Int16 c = ap integer_named (sym (text_from_reads c.args.name.now (codes "Int16") (omega arith) (search rules)))

pub returns-in-Int32 : goal.returns-in-Int32
returns-in-Int32 c = ap integer_named (sym (text_from_reads c.args.name.now (codes "Int32") (omega arith) (search rules)))

pub returns-in-Int64 : goal.returns-in-Int64
returns-in-Int64 c = ap integer_named (sym (text_from_reads c.args.name.now (codes "Int64") (omega arith) (search rules)))

pub returns-in-UInt8 : goal.returns-in-UInt8
returns-in-UInt8 c = ap integer_named (sym (text_from_reads c.args.name.now (codes "UInt8") (omega arith) (search rules)))

pub returns-in-UInt16 : goal.returns-in-UInt16
returns-in-UInt16 c = ap integer_named (sym (text_from_reads c.args.name.now (codes "UInt16") (omega arith) (search rules)))

pub returns-in-UInt32 : goal.returns-in-UInt32
returns-in-UInt32 c = ap integer_named (sym (text_from_reads c.args.name.now (codes "UInt32") (omega arith) (search rules)))

pub returns-in-UInt64 : goal.returns-in-UInt64
returns-in-UInt64 c = ap integer_named (sym (text_from_reads c.args.name.now (codes "UInt64") (omega arith) (search rules)))

pub returns-in_default : goal.returns-in_default
returns-in_default c =
    let name = c.args.name.now in
    let int8 : bytes_eq name (codes "Int8") ≡ false = other_text name (codes "Int8") (λ (e : name ≡ codes "Int8"). grind arith) in
    let int16 : bytes_eq name (codes "Int16") ≡ false = other_text name (codes "Int16") (λ (e : name ≡ codes "Int16"). grind arith) in
    let int32 : bytes_eq name (codes "Int32") ≡ false = other_text name (codes "Int32") (λ (e : name ≡ codes "Int32"). grind arith) in
    let int64 : bytes_eq name (codes "Int64") ≡ false = other_text name (codes "Int64") (λ (e : name ≡ codes "Int64"). grind arith) in
    let uint8 : bytes_eq name (codes "UInt8") ≡ false = other_text name (codes "UInt8") (λ (e : name ≡ codes "UInt8"). grind arith) in
    let uint16 : bytes_eq name (codes "UInt16") ≡ false = other_text name (codes "UInt16") (λ (e : name ≡ codes "UInt16"). grind arith) in
    let uint32 : bytes_eq name (codes "UInt32") ≡ false = other_text name (codes "UInt32") (λ (e : name ≡ codes "UInt32"). grind arith) in
    let uint64 : bytes_eq name (codes "UInt64") ≡ false = other_text name (codes "UInt64") (λ (e : name ≡ codes "UInt64"). grind arith) in
    no_integer name int8 int16 int32 int64 uint8 uint16 uint32 uint64
