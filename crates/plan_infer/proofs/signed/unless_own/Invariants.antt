use Rattle.std.proofs.Common.{◌≡◌, drop, map}
use Rattle.plan_types.specs.Types.{ty}
use Rattle.plan_dsl.specs.Typing.{types_of}
use Rattle.plan_arena.specs.Items.{numbers}
use Rattle.plan_infer.specs.KeptTypes.{typings_at}
use Rattle.plan_infer.proofs.signed.unless_own.Given as goal

abbrev pub invariant-loop-index : goal.invariant-loop-index
invariant-loop-index l = record {
  left : let all = typings_at l.types (numbers l.inputs) in types_of (drop l.index all) ≡ map ty (drop l.index l.targets.items) → types_of all ≡ map ty l.targets.items;
}
