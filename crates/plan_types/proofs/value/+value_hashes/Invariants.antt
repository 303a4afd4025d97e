use Rattle.std.proofs.Common.{◌≡◌, drop}
use Rattle.std.specs.List.{fold}
use Rattle.plan_types.specs.ValueLaws.{each_writes, parts_writes}
use Rattle.plan_types.specs.ValueViews.{values_in}
use Rattle.plan_types.proofs.value.+value_hashes.Given as goal

abbrev pub invariant-feed_values-loop-value : goal.invariant-feed_values-loop-value
invariant-feed_values-loop-value g l =
    fold g.H.Hasher.write l.state (each_writes (values_in (drop l.value-index l.values))) ≡ fold g.H.Hasher.write l.fn.state (parts_writes (values_in l.values))
