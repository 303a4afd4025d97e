use Rattle.plan_json.proofs.Names.{ap, arith, codes, rules, sym}
use Rattle.std.proofs.lemmas.Slice.Eq.{text_from_reads}
use Rattle.plan_json.specs.Leaves.{logic_named}
use Rattle.plan_json.proofs.operator.logic_named.Goals as goal

pub returns-in-LogicalOr : goal.returns-in-LogicalOr
returns-in-LogicalOr c = ap logic_named (sym (text_from_reads c.args.name.now (codes "LogicalOr") (omega arith) (search rules)))

pub returns-in-LogicalAnd : goal.returns-in-LogicalAnd
returns-in-LogicalAnd c = ap logic_named (sym (text_from_reads c.args.name.now (codes "LogicalAnd") (omega arith) (search rules)))
