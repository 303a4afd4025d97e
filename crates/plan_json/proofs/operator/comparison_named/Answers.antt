use Rattle.plan_json.proofs.Names.{ap, arith, codes, rules, sym}
use Rattle.std.proofs.lemmas.Slice.Eq.{text_from_reads}
use Rattle.plan_json.specs.Leaves.{comparison_named}
use Rattle.plan_json.proofs.operator.comparison_named.Goals as goal

pub returns-in-EqValidity : goal.returns-in-EqValidity
returns-in-EqValidity c = ap comparison_named (sym (text_from_reads c.args.name.now (codes "EqValidity") (omega arith) (search rules)))

pub returns-in-NotEqValidity : goal.returns-in-NotEqValidity
returns-in-NotEqValidity c = ap comparison_named (sym (text_from_reads c.args.name.now (codes "NotEqValidity") (omega arith) (search rules)))
