use Rattle.std.proofs.Common.{◌≡◌, drop, map}
use Rattle.plan_types.specs.Types.{ty}
use Rattle.plan_dsl.specs.Typing.{taken_from}
use Rattle.plan_arena.specs.Items.{numbers}
use Rattle.plan_infer.specs.KeptTypes.{typings_at}
use Rattle.plan_infer.proofs.SignedLemmas.{types_before}
use Rattle.plan_infer.proofs.signed.targets.Given as goal

abbrev pub invariant-loop-index : goal.invariant-loop-index
invariant-loop-index l = record {
  taken : let all = typings_at l.types (numbers l.inputs) in taken_from (ty l.shared) l.signature 0 all ≡ types_before (map ty l.targets.items) (taken_from (ty l.shared) l.signature l.index (drop l.index all));
}
