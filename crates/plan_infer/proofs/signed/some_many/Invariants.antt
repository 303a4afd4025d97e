use Rattle.std.proofs.Common.{◌≡◌, drop}
use Rattle.plan_dsl.specs.Typing.{some_many}
use Rattle.plan_arena.specs.Items.{numbers}
use Rattle.plan_infer.specs.KeptTypes.{typings_at}
use Rattle.plan_infer.proofs.signed.some_many.Given as goal

abbrev pub invariant-loop-index : goal.invariant-loop-index
invariant-loop-index l = record {
  left : let all = typings_at l.types (numbers l.inputs) in some_many all ≡ some_many (drop l.index all);
}
