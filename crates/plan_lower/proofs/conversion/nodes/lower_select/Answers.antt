use Rattle.std.proofs.Common.{[], ◌∷◌, map, refl, subst, arith}
use Rattle.std.proofs.lemmas.List.{length-map}
use Rattle.plan_types.specs.Schemas.{Columns, columns}
use Rattle.plan_types.specs.declared.error.ErrorKind.TheVariants.{Duplicate}
use Rattle.plan_dsl.specs.Expressions.{trees_of}
use Rattle.plan_dsl.specs.Plans.{SelectWork}
use Rattle.plan_dsl.specs.Registry.{registry}
use Rattle.plan_arena.specs.Items.{named_node}
use Rattle.plan_lower.specs.Lowering.{columns_at}
use Rattle.plan_lower.specs.Outputs.{HasExpandedOutputs}
use Rattle.plan_lower.specs.Projection.{IsUnprojected}
use Rattle.plan_lower.specs.Works.{IsWorkAt}
use Rattle.plan_lower.specs.declared.conversion.step.Step.TheVariants.{Select}
use Rattle.plan_lower.proofs.AddedLemmas.{empty_stays, layer_added, own_adds, own_at, refused_lowers, same_grows}
use Rattle.plan_lower.proofs.PlanLemmas.{select_refusal, select_work}
use Rattle.plan_lower.proofs.conversion.nodes.lower_select.Goals as goal

pub returns : goal.returns
returns c =
    let r = registry c.args.udfs.now in
    let schema = columns_at c.args.lp_arena.now c.args.input.schema_node.0 in
    let items = c.project_strictly.new.arena in
    let sources = trees_of c.args.expr in
    let exprs = c.in_ok-projection.projection.expr.items.items in
    let own = columns c.in_ok-projection.projection.schema in
    let node = c.in_ok-node.node in
    let input = c.args.input.node.0 in
    let mid = c.input_of.new.lp_arena in
    let new = c.add.new.self in
    let added = c.in_ok-node.ensures.ok in
    let below = c.in_ok-input.ensures in
    let long = length-map exprs named_node in
    let has = subst (λ (s : Columns). HasExpandedOutputs r s Duplicate items sources (map named_node exprs) own) c.recorded_schema-schema.ensures c.in_ok-projection.ensures.ok in
    let at = select_work r items new node.0 input schema own sources (map named_node exprs) c.in_ok-input.input.0 has (λ e. empty_stays mid new _ _ added (below.nothing (omega (arith, long, c.len.ensures, e)))) (λ p. below.something (omega (arith, long, c.len.ensures, p))) (layer_added mid new _ node.0 _ added c.in_ok-node.ensures.node refl) in
    record {
      ok = own_at mid new _ node own (IsWorkAt r schema items new node.0 input SelectWork (sources ∷ [])) added c.in_ok-node.ensures.node refl at;
      err = tt;
      kept = c.in_ok-projection.ensures.kept;
      adds = own_adds c.args.lp_arena.now mid new _ node own below.grows below.options added c.in_ok-node.ensures.node refl;
    }

pub returns-in_err-projection : goal.returns-in_err-projection
returns-in_err-projection c =
    let r = registry c.args.udfs.now in
    let old = c.args.lp_arena.now in
    let sources = trees_of c.args.expr in
    let refused = subst (λ (s : Columns). IsUnprojected r s Duplicate sources c.in_err-projection.field-0.0) c.recorded_schema-schema.ensures c.in_err-projection.ensures.err in
    refused_lowers r (Select c.args.expr c.args.options) c.args.input _ _ old old c.from_residual.result _ c.from_residual.ensures.1 (select_refusal r (columns_at old c.args.input.schema_node.0) _ sources refused) c.in_err-projection.ensures.kept (same_grows old old refl)
