use Rattle.std.proofs.Common.{◌≡◌, drop, map}
use Rattle.plan_types.specs.Types.{ty}
use Rattle.plan_dsl.specs.Strictness.{same_types}
use Rattle.plan_dsl.specs.Typing.{types_of}
use Rattle.plan_arena.specs.Items.{numbers}
use Rattle.plan_infer.specs.KeptTypes.{typings_at}
use Rattle.plan_coerce.proofs.coercion_rule.takes_own.Given as goal

abbrev pub invariant-loop-index : goal.invariant-loop-index
invariant-loop-index l = record {
  left : let all = typings_at l.types (numbers l.inputs) in same_types (types_of (drop l.index all)) (map ty (drop l.index l.own.operands)) ≡ same_types (types_of all) (map ty l.own.operands);
}
