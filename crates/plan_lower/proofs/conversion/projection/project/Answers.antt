use Rattle.std.proofs.Common.{◌≡◌, [], true, length, map, refl, ap, subst, sym, append-nil}
use Rattle.std.specs.List.{AllByRecursion}
use Rattle.std.specs.Vec.Iter.{into_iter_items}
use Rattle.plan_types.specs.Errors.{no_memory}
use Rattle.plan_types.proofs.ResultLemmas.{passed_on}
use Rattle.plan_types.specs.Schemas.{columns}
use Rattle.plan_dsl.specs.Expressions.{plain_tree, plain_trees, tree_of}
use Rattle.plan_dsl.specs.Sources.{is_plain}
use Rattle.plan_dsl.specs.Registry.{registry}
use Rattle.plan_arena.specs.Items.{named_node}
use Rattle.plan_arena.proofs.ItemLemmas.{length-grown, grows_then}
use Rattle.plan_infer.specs.KeptTypes.{IsKept}
use Rattle.plan_lower.specs.Projection.{no_room}
use Rattle.plan_lower.proofs.NodeLemmas.{each_plain}
use Rattle.plan_lower.proofs.ProjectionLemmas.{Projecting, projecting_start, projecting_step, projecting_refused, pushed_node, roots_kept}
use Rattle.plan_infer.proofs.TableLemmas.{extends_itself, extends_then}
use Rattle.plan_lower.proofs.conversion.projection.project.Goals as goal

pub returns-in_err-expr_ir-clause-err : goal.returns-in_err-expr_ir-clause-err
returns-in_err-expr_ir-clause-err c =
    passed_on c.from_residual-in_err-expr_ir.result c.in_err-expr_ir.field-0.0 _ c.from_residual-in_err-expr_ir.ensures.1 (projecting_refused _ _ c.args.asked _ _ _ _ (map plain_tree (into_iter_items c.next.new.self)) (plain_tree c.in-Some.expr) _ _ _ c.loop-expr.invariant.so_far (ap (map plain_tree) c.in-Some.ensures.steps.0) c.in_err-expr_ir.ensures.err)

pub returns-in_err-push-clause-err : goal.returns-in_err-push-clause-err
returns-in_err-push-clause-err c =
    passed_on c.from_residual-in_err-push.result no_memory _ c.from_residual-in_err-push.ensures.1 (projecting_refused _ _ c.args.asked _ _ _ _ (map plain_tree (into_iter_items c.next.new.self)) (plain_tree c.in-Some.expr) _ _ _ c.loop-expr.invariant.so_far (ap (map plain_tree) c.in-Some.ensures.steps.0) (no_room refl))

pub loop-expr-init : goal.loop-expr-init
loop-expr-init c = record {
  can = tt;
  finite = tt;
  plain = subst (AllByRecursion (λ e. is_plain (tree_of e) ≡ true)) (sym c.into_iter-expr-iterator.ensures.into_iter_gives.0) (each_plain c.args.exprs.items.items c.requires.plain);
  grows = record { added = []; longer = sym (append-nil c.args.arena.now) };
  extends = extends_itself c.args.types.now;
  right = c.requires.right;
  kept = subst (λ es. AllByRecursion (IsKept c.args.types.now) (map (λ e. (named_node e).expression) es)) (sym c.in_ok-items.ensures.items) tt;
  so_far = subst (λ es. Projecting (registry c.args.udfs.now) (columns c.args.schema.now) c.args.asked (length c.args.arena.now) c.args.arena.now (plain_trees c.args.exprs) (map plain_tree (into_iter_items c.into_iter-expr-iterator.result)) (map named_node es) (columns c.in_ok-output.output)) (sym c.in_ok-items.ensures.items) (projecting_start _ _ _ _ _ _ _ _ (ap (map plain_tree) c.into_iter-expr-iterator.ensures.into_iter_gives.0) c.in_ok-output.ensures.ok);
}

pub loop-expr-preserved : goal.loop-expr-preserved
loop-expr-preserved c = record {
  can = tt;
  finite = tt;
  plain = (subst (AllByRecursion (λ e. is_plain (tree_of e) ≡ true)) c.in-Some.ensures.steps.0 c.loop-expr.invariant.plain).1;
  grows = grows_then _ _ _ c.loop-expr.invariant.grows c.in_ok-expr_ir.ensures.grows;
  extends = extends_then _ _ _ c.loop-expr.invariant.extends c.in_ok-expr_ir.ensures.extends;
  right = c.in_ok-expr_ir.ensures.right;
  kept = roots_kept _ _ c.loop-expr.items.items c.push.new.self.items c.in_ok-expr_ir.expr_ir c.in_ok-expr_ir.ensures.extends c.in_ok-push.ensures.items c.loop-expr.invariant.kept c.in_ok-expr_ir.ensures.kept;
  so_far = projecting_step _ _ _ _ _ _ _ _ _ (plain_tree c.in-Some.expr) _ _ (named_node c.in_ok-expr_ir.expr_ir) _ _ c.loop-expr.invariant.so_far (ap (map plain_tree) c.in-Some.ensures.steps.0) (length-grown _ _ c.loop-expr.invariant.grows) c.in_ok-expr_ir.ensures.grows c.in_ok-expr_ir.ensures.ok (pushed_node _ _ _ c.in_ok-push.ensures.items);
}
