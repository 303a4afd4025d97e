use Rattle.std.proofs.Common.{◌≡◌, ◌++◌, true, List, length, map, sym, ap, ◌∙◌, subst, ⊎_elim}
use Rattle.plan_types.proofs.ResultLemmas.{passed_on}
use Rattle.plan_types.specs.Schemas.{Name, columns, names_of, repeats}
use Rattle.plan_dsl.specs.Registry.{registry}
use Rattle.plan_arena.specs.Items.{named_node}
use Rattle.plan_arena.proofs.ItemLemmas.{grown_held}
use Rattle.plan_coerce.specs.Optimizer.{AreWrittenOut}
use Rattle.plan_lower.specs.Groups.{not_typed, twice}
use Rattle.plan_lower.specs.Projection.{out_of_memory}
use Rattle.plan_lower.proofs.GroupLemmas.{has_aggregates, name_at, named_names, projected_names}
use Rattle.plan_lower.proofs.ProjectionLemmas.{earlier_kept, projected_typed, roots_are}
use Rattle.plan_lower.proofs.conversion.groups.aggregate_coerced.Goals as goal

pub coerce_all-requires : goal.coerce_all-requires
coerce_all-requires c = record {
  right = c.in_ok-projection.ensures.right;
  known = (length c.args.arena.now, projected_typed c.in_ok-projection.projection.expr.items.items c.as_slice.result.now c.in_ok-projection.ensures.ok c.as_slice.ensures.value);
}

pub returns-clause-ok : goal.returns-clause-ok
returns-clause-ok c =
    let r = registry c.args.udfs.now in
    let schema = columns c.args.schema.now in
    let p = c.in_ok-projection.ensures.ok in
    let first = length c.args.arena.now in
    let exprs = c.in_ok-projection.projection.expr.items.items in
    let own = roots_are exprs p.outputs p.nodes_are in
    let roots = ap (map (λ e. (named_node e).expression)) c.as_slice.ensures.value ∙ own in
    let coerced = c.in_ok-coerce_all.ensures.ok first (projected_typed exprs c.as_slice.result.now p c.as_slice.ensures.value) in
    let written = subst (AreWrittenOut r schema first c.project.new.arena c.coerce_all.new.arena) roots coerced in
    has_aggregates r schema first c.project.new.arena c.coerce_all.new.arena c.project.new.types _ _ _ _ (columns c.args.keys) (columns c.in_ok-whole.whole) p written own c.in_ok-projection.ensures.right c.in_ok-projection.ensures.kept c.in_ok-whole.ensures.ok

pub returns-clause-kept : goal.returns-clause-kept
returns-clause-kept c =
    let typed = projected_typed c.in_ok-projection.projection.expr.items.items c.as_slice.result.now c.in_ok-projection.ensures.ok c.as_slice.ensures.value in
    earlier_kept c.args.arena.now c.project.new.arena c.coerce_all.new.arena c.in_ok-projection.ensures.grows (c.in_ok-coerce_all.ensures.below (length c.args.arena.now) typed)

pub returns-in_err-projection-clause-kept : goal.returns-in_err-projection-clause-kept
returns-in_err-projection-clause-kept c = grown_held c.args.arena.now c.project.new.arena c.project.ensures.grows

pub returns-in_err-whole-clause-kept : goal.returns-in_err-whole-clause-kept
returns-in_err-whole-clause-kept c = grown_held c.args.arena.now c.project.new.arena c.in_ok-projection.ensures.grows

pub returns-in_err-coerce_all-clause-kept : goal.returns-in_err-coerce_all-clause-kept
returns-in_err-coerce_all-clause-kept c =
    let typed = projected_typed c.in_ok-projection.projection.expr.items.items c.as_slice.result.now c.in_ok-projection.ensures.ok c.as_slice.ensures.value in
    earlier_kept c.args.arena.now c.project.new.arena c.coerce_all.new.arena c.in_ok-projection.ensures.grows (c.in_err-coerce_all.ensures.below (length c.args.arena.now) typed)

pub returns-in_err-projection-clause-err : goal.returns-in_err-projection-clause-err
returns-in_err-projection-clause-err c =
    passed_on c.from_residual.result c.in_err-projection.field-0.0 _ c.from_residual.ensures.1 (not_typed c.in_err-projection.ensures.err)

pub returns-in_err-whole-clause-err : goal.returns-in_err-whole-clause-err
returns-in_err-whole-clause-err c =
    let p = c.in_ok-projection.ensures.ok in
    let names = named_names c.in_ok-projection.projection.expr.items.items ∙ projected_names _ _ _ _ _ _ _ p in
    let repeated = λ (h : repeats (names_of (columns c.args.keys) ++ map name_at c.in_ok-projection.projection.expr.items.items) ≡ true). ap (λ (l : List Name). repeats (names_of (columns c.args.keys) ++ l)) (sym names) ∙ h in
    passed_on c.from_residual-in_err-whole.result c.in_err-whole.field-0.0 _ c.from_residual-in_err-whole.ensures.1 (⊎_elim (λ e. not_typed (out_of_memory e)) (λ e. twice e.0 (repeated e.1)) c.in_err-whole.ensures.err)
