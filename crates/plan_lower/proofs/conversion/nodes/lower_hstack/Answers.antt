use Rattle.std.proofs.Common.{[], ◌∷◌, map, ap, refl, subst, ◌∙◌}
use Rattle.plan_types.specs.Schemas.{Columns, columns}
use Rattle.plan_types.specs.declared.error.ErrorKind.TheVariants.{ComputeError}
use Rattle.plan_dsl.specs.Expressions.{trees_of}
use Rattle.plan_dsl.specs.Plans.{HStackWork}
use Rattle.plan_dsl.specs.PlanRules.{with_columns}
use Rattle.plan_dsl.specs.Registry.{registry}
use Rattle.plan_arena.specs.Items.{named_node}
use Rattle.plan_lower.specs.Lowering.{columns_at}
use Rattle.plan_lower.specs.Outputs.{HasExpandedOutputs}
use Rattle.plan_lower.specs.Projection.{IsUnprojected}
use Rattle.plan_lower.specs.Works.{IsWorkAt, without_memory}
use Rattle.plan_lower.specs.declared.conversion.step.Step.TheVariants.{HStack}
use Rattle.plan_lower.proofs.AddedLemmas.{layer_added, own_adds, own_at, refused_lowers, same_grows}
use Rattle.plan_lower.proofs.PlanLemmas.{hstack_refusal, hstack_work}
use Rattle.plan_lower.proofs.conversion.nodes.lower_hstack.Goals as goal

pub returns : goal.returns
returns c =
    let r = registry c.args.udfs.now in
    let schema = columns_at c.args.lp_arena.now c.args.input.schema_node.0 in
    let items = c.project_strictly.new.arena in
    let sources = trees_of c.args.exprs in
    let nodes = map named_node c.in_ok-projection.projection.expr.items.items in
    let columns_are = columns c.in_ok-projection.projection.schema in
    let own = columns c.in_ok-schema.schema in
    let node = c.in_ok-node.node in
    let input = c.args.input.node.0 in
    let old = c.args.lp_arena.now in
    let new = c.add.new.self in
    let added = c.in_ok-node.ensures.ok in
    let has = subst (λ (s : Columns). HasExpandedOutputs r s ComputeError items sources nodes columns_are) c.recorded_schema-before.ensures c.in_ok-projection.ensures.ok in
    let whole = c.in_ok-schema.ensures.ok ∙ ap (λ s. with_columns s columns_are) c.recorded_schema-before.ensures in
    let at = hstack_work r items new node.0 input schema own sources nodes columns_are has whole (layer_added old new _ node.0 _ added c.in_ok-node.ensures.node refl) in
    record {
      ok = own_at old new _ node own (IsWorkAt r schema items new node.0 input HStackWork (sources ∷ [])) added c.in_ok-node.ensures.node refl at;
      err = tt;
      kept = c.in_ok-projection.ensures.kept;
      adds = own_adds old old new _ node own (same_grows old old refl) refl added c.in_ok-node.ensures.node refl;
    }

pub returns-in_err-projection : goal.returns-in_err-projection
returns-in_err-projection c =
    let r = registry c.args.udfs.now in
    let old = c.args.lp_arena.now in
    let sources = trees_of c.args.exprs in
    let refused = subst (λ (s : Columns). IsUnprojected r s ComputeError sources c.in_err-projection.field-0.0) c.recorded_schema-before.ensures c.in_err-projection.ensures.err in
    refused_lowers r (HStack c.args.exprs c.args.options) c.args.input _ _ old old c.from_residual.result _ c.from_residual.ensures.1 (hstack_refusal r (columns_at old c.args.input.schema_node.0) _ sources refused) c.in_err-projection.ensures.kept (same_grows old old refl)

pub returns-in_err-node : goal.returns-in_err-node
returns-in_err-node c =
    let old = c.args.lp_arena.now in
    let new = c.add.new.self in
    refused_lowers (registry c.args.udfs.now) (HStack c.args.exprs c.args.options) c.args.input _ _ old new c.from_residual-in_err-node.result _ c.from_residual-in_err-node.ensures.1 (without_memory c.in_err-node.ensures.err) c.in_ok-projection.ensures.kept (same_grows old new c.in_err-node.ensures.unchanged)
