use Rattle.std.proofs.Common.{ap, ◌∙◌, map}
use Rattle.std.specs.List.{flat_map}
use Rattle.indexmap.specs.IndexSet.{insert_all}
use Rattle.plan_types.specs.Schemas.{same_name}
use Rattle.plan_dsl.specs.Expressions.{excluded_of}
use Rattle.plan_expand.specs.Names.{excluded_name}
use Rattle.plan_expand.proofs.NameLemmas.{put_once}
use Rattle.plan_expand.proofs.markers.excluded_names.Goals as goal

pub loop-item-init : goal.loop-item-init
loop-item-init c =
    let names = flat_map excluded_name (map excluded_of c.args.excluded.now) in
    ap (λ l. insert_all same_name l names) c.new-names.ensures.empty ∙ put_once names
