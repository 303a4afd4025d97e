use Rattle.std.proofs.Common.{◌∙◌}
use Rattle.indexmap.specs.IndexSet.{insert_all}
use Rattle.plan_types.specs.Schemas.{same_name}
use Rattle.plan_expand.proofs.NameLemmas.{put_once}
use Rattle.plan_expand.proofs.selectors.distinct.Goals as goal

pub loop-name-init : goal.loop-name-init
loop-name-init c =
    let start = c.into_iter-name-iterator.ensures.into_iter_gives.0 in
    record { can = tt; finite = tt; so_far = (λ i. insert_all same_name (c.in_ok-names.ensures.empty i) (start i)) ∙ put_once c.args.list.items }
