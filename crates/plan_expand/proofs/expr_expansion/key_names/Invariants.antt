use Rattle.std.proofs.Common.{◌≡◌, drop, map}
use Rattle.indexmap.specs.IndexSet.{insert_all}
use Rattle.plan_types.specs.Schemas.{same_name}
use Rattle.plan_dsl.specs.Expansion.{key_names}
use Rattle.plan_dsl.specs.Expressions.{tree_of}
use Rattle.plan_dsl.specs.Markers.{once}
use Rattle.plan_expand.proofs.expr_expansion.key_names.Given as goal

abbrev pub invariant-loop-key : goal.invariant-loop-key
invariant-loop-key l = insert_all same_name l.names.keys (key_names (map tree_of (drop l.key-index l.keys))) ≡ once (key_names (map tree_of l.keys))
