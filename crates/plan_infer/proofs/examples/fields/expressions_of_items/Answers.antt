use Rattle.std.proofs.Common.{◌<◌, [], refl, arith}
use Rattle.plan_arena.proofs.ItemLemmas.{tree_within}
use Rattle.plan_infer.specs.Samples.{a, b, a_items}
use Rattle.plan_infer.proofs.examples.fields.expressions_of_items.Goals as goal

pub returns-clause-operands : goal.returns-clause-operands
returns-clause-operands c = ((record { tree = a; denotes = ([], refl, tt) }, (record { tree = b; denotes = ([], refl, tt) }, tt)), tt)

pub returns-clause-no_such_operand : goal.returns-clause-no_such_operand
returns-clause-no_such_operand c = λ has.
    let within : 1 < 1 = tree_within a_items 1 has.1.0 in
    absurd (omega (arith, within))
