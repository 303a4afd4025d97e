use Rattle.plan_json.proofs.Names.{List, ap, arith, codes, expression_rows, key_named, option_map, refl, rules, sym, ℕ}
use Rattle.plan_json.proofs.FormLemmas.{named_plain}
use Rattle.plan_json.specs.declared.forms.ExpressionKey.{ExpressionKey}
use Rattle.plan_json.specs.declared.forms.Key.TheVariants as keys
use Rattle.plan_json.specs.declared.forms.Kind.TheVariants as kinds
use Rattle.std.proofs.lemmas.Slice.Eq.{text_from_reads}
use Rattle.plan_json.proofs.forms.find_expression.Goals as goal

pub returns-in-col-clause-row : goal.returns-in-col-clause-row
returns-in-col-clause-row c = ap (key_named kinds.Expression) (sym (text_from_reads c.args.word.now (codes "col") (omega arith) (search rules)))

pub returns-in-bin-clause-row : goal.returns-in-bin-clause-row
returns-in-bin-clause-row c = ap (key_named kinds.Expression) (sym (text_from_reads c.args.word.now (codes "bin") (omega arith) (search rules)))

pub returns-in-Some-clause-row : goal.returns-in-Some-clause-row
returns-in-Some-clause-row c = ap (option_map (λ (row : List ℕ × ExpressionKey). (row.0, keys.Expression row.1))) c.in-Some.ensures.row

pub returns-in-Some-clause-plain : goal.returns-in-Some-clause-plain
returns-in-Some-clause-plain c = named_plain expression_rows c.args.word.now (c.in-Some.word.now, c.in-Some.key) refl c.in-Some.ensures.row

pub returns-in-None-clause-row : goal.returns-in-None-clause-row
returns-in-None-clause-row c = ap (option_map (λ (row : List ℕ × ExpressionKey). (row.0, keys.Expression row.1))) c.in-None.ensures.row
