use Rattle.std.proofs.Common.{[], ◌∷◌, map, refl, subst}
use Rattle.plan_types.specs.Schemas.{Columns, columns}
use Rattle.plan_dsl.specs.Expressions.{trees_of}
use Rattle.plan_dsl.specs.Plans.{GroupByWork}
use Rattle.plan_dsl.specs.Registry.{registry}
use Rattle.plan_arena.specs.Items.{named_node}
use Rattle.plan_lower.specs.Groups.{HasExpandedGroups, IsUngrouped}
use Rattle.plan_lower.specs.Lowering.{columns_at}
use Rattle.plan_lower.specs.Works.{IsWorkAt}
use Rattle.plan_lower.specs.declared.conversion.step.Step.TheVariants.{GroupBy}
use Rattle.plan_lower.proofs.AddedLemmas.{layer_added, own_adds, own_at, refused_lowers, same_grows}
use Rattle.plan_lower.proofs.GroupLemmas.{groups_refusal, groups_work}
use Rattle.plan_lower.proofs.conversion.nodes.lower_groups.Goals as goal

pub returns : goal.returns
returns c =
    let r = registry c.args.udfs.now in
    let schema = columns_at c.args.lp_arena.now c.args.input.schema_node.0 in
    let items = c.group_strictly.new.arena in
    let keys = trees_of c.args.keys in
    let aggs = trees_of c.args.aggs in
    let nodes = map named_node c.in_ok-groups.groups.keys.items.items in
    let others = map named_node c.in_ok-groups.groups.aggs.items.items in
    let own = columns c.in_ok-groups.groups.schema in
    let node = c.in_ok-node.node in
    let input = c.args.input.node.0 in
    let old = c.args.lp_arena.now in
    let new = c.add.new.self in
    let added = c.in_ok-node.ensures.ok in
    let has = subst (λ (s : Columns). HasExpandedGroups r s items keys aggs nodes others own) c.recorded_schema-schema.ensures c.in_ok-groups.ensures.ok in
    let at = groups_work r items new node.0 input schema own keys aggs nodes others has (layer_added old new _ node.0 _ added c.in_ok-node.ensures.node refl) in
    record {
      ok = own_at old new _ node own (IsWorkAt r schema items new node.0 input GroupByWork (keys ∷ aggs ∷ [])) added c.in_ok-node.ensures.node refl at;
      err = tt;
      kept = c.in_ok-groups.ensures.kept;
      adds = own_adds old old new _ node own (same_grows old old refl) refl added c.in_ok-node.ensures.node refl;
    }

pub returns-in_err-groups : goal.returns-in_err-groups
returns-in_err-groups c =
    let r = registry c.args.udfs.now in
    let old = c.args.lp_arena.now in
    let keys = trees_of c.args.keys in
    let aggs = trees_of c.args.aggs in
    let refused = subst (λ (s : Columns). IsUngrouped r s keys aggs c.in_err-groups.field-0.0) c.recorded_schema-schema.ensures c.in_err-groups.ensures.err in
    refused_lowers r (GroupBy c.args.keys c.args.aggs c.args.maintain_order) c.args.input _ _ old old c.from_residual.result _ c.from_residual.ensures.1 (groups_refusal r (columns_at old c.args.input.schema_node.0) _ keys aggs refused) c.in_err-groups.ensures.kept (same_grows old old refl)
