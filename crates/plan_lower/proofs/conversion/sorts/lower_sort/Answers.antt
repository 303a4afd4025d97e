use Rattle.std.proofs.Common.{[], ◌∷◌, map, refl, subst}
use Rattle.plan_types.specs.Schemas.{Columns, columns}
use Rattle.plan_dsl.specs.Expressions.{plain_trees, trees_of}
use Rattle.plan_dsl.specs.Plans.{sort_work}
use Rattle.plan_dsl.specs.Registry.{registry}
use Rattle.plan_dsl.specs.Resolving.{expanded_over}
use Rattle.plan_arena.specs.Items.{named_node}
use Rattle.plan_expand.specs.Refusals.{IsUnexpanded}
use Rattle.plan_lower.specs.Lowering.{columns_at}
use Rattle.plan_lower.specs.Outputs.{HasOutputs}
use Rattle.plan_lower.specs.Projection.{IsProjectionRefusal}
use Rattle.plan_lower.specs.Sorts.{HasKeys}
use Rattle.plan_lower.specs.Works.{unresolved}
use Rattle.plan_lower.specs.declared.conversion.asked.Asked.TheVariants.{Order}
use Rattle.plan_lower.specs.declared.conversion.step.Step.TheVariants.{Sort}
use Rattle.plan_lower.proofs.AddedLemmas.{refused_lowers, same_grows}
use Rattle.plan_lower.proofs.SortLemmas.{sort_at, sort_refusal}
use Rattle.plan_lower.proofs.conversion.sorts.lower_sort.Goals as goal

pub returns : goal.returns
returns c =
    let r = registry c.args.udfs.now in
    let schema = columns_at c.args.lp_arena.now c.args.input.schema_node.0 in
    let items = c.project_asked.new.arena in
    let by = trees_of c.args.by in
    let trees = plain_trees c.in_ok-keys.keys.exprs in
    let own = c.in_ok-keys.keys.options in
    let nodes = map named_node c.in_ok-projection.projection.expr.items.items in
    let none = columns c.in_ok-projection.projection.schema in
    let keys = subst (λ (s : Columns). HasKeys s by c.args.sort_options trees own) c.recorded_schema-schema.ensures c.in_ok-keys.ensures.ok in
    let has = subst (λ (s : Columns). HasOutputs r s Order items trees nodes none) c.recorded_schema-schema.ensures c.in_ok-projection.ensures.ok in
    record {
      ok = sort_at r schema by c.args.sort_options own trees keys items c.add_plain.new.lp_arena c.in_ok-lowered.lowered.node.0 c.args.input.node.0 none _ nodes has c.in_ok-lowered.ensures.schema c.in_ok-lowered.ensures.ok;
      err = tt;
      kept = c.in_ok-projection.ensures.kept;
      adds = c.in_ok-lowered.ensures.adds;
    }

pub returns-in_err-keys : goal.returns-in_err-keys
returns-in_err-keys c =
    let old = c.args.lp_arena.now in
    let unexpanded = subst (λ (s : Columns). IsUnexpanded (expanded_over s (sort_work c.args.sort_options) (trees_of c.args.by ∷ [])) c.in_err-keys.field-0.0) c.recorded_schema-schema.ensures c.in_err-keys.ensures.err in
    refused_lowers _ (Sort c.args.by c.args.sort_options) c.args.input _ _ old old c.from_residual.result _ c.from_residual.ensures.1 (unresolved unexpanded) (λ n op inputs held. held) (same_grows old old refl)

pub returns-in_err-projection : goal.returns-in_err-projection
returns-in_err-projection c =
    let old = c.args.lp_arena.now in
    let schema = columns_at old c.args.input.schema_node.0 in
    let by = trees_of c.args.by in
    let trees = plain_trees c.in_ok-keys.keys.exprs in
    let own = c.in_ok-keys.keys.options in
    let keys = subst (λ (s : Columns). HasKeys s by c.args.sort_options trees own) c.recorded_schema-schema.ensures c.in_ok-keys.ensures.ok in
    let refused = subst (λ (s : Columns). IsProjectionRefusal (registry c.args.udfs.now) s Order trees c.in_err-projection.field-0.0) c.recorded_schema-schema.ensures c.in_err-projection.ensures.err in
    refused_lowers _ (Sort c.args.by c.args.sort_options) c.args.input _ _ old old c.from_residual-in_err-projection.result _ c.from_residual-in_err-projection.ensures.1 (sort_refusal _ schema by c.args.sort_options own trees keys _ refused) c.in_err-projection.ensures.kept (same_grows old old refl)
