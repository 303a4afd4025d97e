use Rattle.plan_json.proofs.Names.{ap, arith, codes, rules, sym}
use Rattle.std.proofs.lemmas.Slice.Eq.{text_from_reads}
use Rattle.plan_json.specs.Leaves.{arithmetic_named}
use Rattle.plan_json.proofs.operator.arithmetic_named.Goals as goal

pub returns-in-Divide : goal.returns-in-Divide
returns-in-Divide c = ap arithmetic_named (sym (text_from_reads c.args.name.now (codes "Divide") (omega arith) (search rules)))

pub returns-in-Modulus : goal.returns-in-Modulus
returns-in-Modulus c = ap arithmetic_named (sym (text_from_reads c.args.name.now (codes "Modulus") (omega arith) (search rules)))

pub returns-in-Multiply : goal.returns-in-Multiply
returns-in-Multiply c = ap arithmetic_named (sym (text_from_reads c.args.name.now (codes "Multiply") (omega arith) (search rules)))

pub returns-in-FloorDivide : goal.returns-in-FloorDivide
returns-in-FloorDivide c = ap arithmetic_named (sym (text_from_reads c.args.name.now (codes "FloorDivide") (omega arith) (search rules)))
