use Rattle.std.proofs.Common.{length, map, ap, ◌∙◌, subst}
use Rattle.plan_types.specs.Schemas.{columns}
use Rattle.plan_dsl.specs.Registry.{registry}
use Rattle.plan_arena.specs.Items.{named_node}
use Rattle.plan_arena.proofs.ItemLemmas.{grown_held}
use Rattle.plan_coerce.specs.Optimizer.{AreWrittenOut}
use Rattle.plan_lower.proofs.ProjectionLemmas.{roots_are, projected_typed, has_outputs, earlier_kept}
use Rattle.plan_lower.proofs.conversion.projection.project_coerced.Goals as goal

pub coerce_all-requires : goal.coerce_all-requires
coerce_all-requires c = record {
  right = c.in_ok-projection.ensures.right;
  known = (length c.args.arena.now, projected_typed c.in_ok-projection.projection.expr.items.items c.as_slice.result.now c.in_ok-projection.ensures.ok c.as_slice.ensures.value);
}

pub returns-in-Ok-clause-ok : goal.returns-in-Ok-clause-ok
returns-in-Ok-clause-ok c =
    let r = registry c.args.udfs.now in
    let s = columns c.args.schema.now in
    let first = length c.args.arena.now in
    let p = c.in_ok-projection.ensures.ok in
    let exprs = c.in_ok-projection.projection.expr.items.items in
    let roots = ap (map (λ e. (named_node e).expression)) c.as_slice.ensures.value ∙ roots_are exprs p.outputs p.nodes_are in
    let coerced = c.in-Ok.ensures.ok first (projected_typed exprs c.as_slice.result.now p c.as_slice.ensures.value) in
    has_outputs r s c.args.asked first c.project.new.arena c.coerce_all.new.arena _ _ _ p (subst (AreWrittenOut r s first c.project.new.arena c.coerce_all.new.arena) roots coerced)

pub returns-in-Ok-clause-kept : goal.returns-in-Ok-clause-kept
returns-in-Ok-clause-kept c =
    let typed = projected_typed c.in_ok-projection.projection.expr.items.items c.as_slice.result.now c.in_ok-projection.ensures.ok c.as_slice.ensures.value in
    earlier_kept c.args.arena.now c.project.new.arena c.coerce_all.new.arena c.in_ok-projection.ensures.grows (c.in-Ok.ensures.below (length c.args.arena.now) typed)

pub returns-in_err-projection-clause-kept : goal.returns-in_err-projection-clause-kept
returns-in_err-projection-clause-kept c = grown_held c.args.arena.now c.project.new.arena c.project.ensures.grows

pub returns-in-Err-clause-kept : goal.returns-in-Err-clause-kept
returns-in-Err-clause-kept c =
    let typed = projected_typed c.in_ok-projection.projection.expr.items.items c.as_slice.result.now c.in_ok-projection.ensures.ok c.as_slice.ensures.value in
    earlier_kept c.args.arena.now c.project.new.arena c.coerce_all.new.arena c.in_ok-projection.ensures.grows (c.in-Err.ensures.below (length c.args.arena.now) typed)
