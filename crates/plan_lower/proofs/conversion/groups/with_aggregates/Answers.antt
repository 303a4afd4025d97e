use Rattle.std.proofs.Common.{◌≡◌, ◌++◌, true, is_some, List, inl, inr, map, refl, sym, subst, arith, ⊎_elim}
use Rattle.std.specs.List.{AllByRecursion}
use Rattle.plan_types.proofs.ResultLemmas.{passed_on}
use Rattle.plan_types.specs.Schemas.{columns, names_of, type_at}
use Rattle.plan_arena.specs.declared.expr_ir.ExprIR.{ExprIR}
use Rattle.plan_infer.specs.KeptTypes.{IsKept, KeepsEntry}
use Rattle.plan_lower.proofs.GroupLemmas.{all_in_groups, kept_there, name_at, name_twice, one_in_groups, one_name, root_of}
use Rattle.plan_lower.proofs.conversion.groups.with_aggregates.Goals as goal

pub get-own-requires : goal.get-own-requires
get-own-requires c =
    let items = c.as_slice-expr-items.result.now in
    let kept = subst (λ (es : List ExprIR). AllByRecursion (IsKept c.args.types.now) (map root_of es)) (sym c.as_slice-expr-items.ensures.value) c.requires in
    subst (IsKept c.args.types.now) (sym c.node.ensures) (kept_there c.args.types.now items kept c.loop-expr.expr-index c.expr-item.result c.loop-expr-test.true c.expr-item.is)

pub loop-expr-init : goal.loop-expr-init
loop-expr-init c = record { so_far = λ typed all. refl; names = refl }

pub loop-expr-preserved : goal.loop-expr-preserved
loop-expr-preserved c =
    let items = c.as_slice-expr-items.result.now in
    let put = c.in_ok-put_new.ensures.ok in
    let keeps = subst (λ n. KeepsEntry c.args.types.now n c.get-own.result.now) c.node.ensures c.get-own.ensures in
    record {
      so_far = one_in_groups c.args.types.now items c.loop-expr.expr-index c.expr-item.result c.get-own.result.now (columns c.args.keys) (columns c.loop-expr.whole) (columns c.put_new.new.output) c.loop-expr-test.true c.expr-item.is keeps put c.loop-expr.invariant.so_far;
      names = one_name items c.loop-expr.expr-index c.expr-item.result _ (names_of (columns c.args.keys) ++ map name_at items) (columns c.loop-expr.whole) (columns c.put_new.new.output) c.loop-expr-test.true c.expr-item.is put c.loop-expr.invariant.names;
    }

pub returns-clause-ok : goal.returns-clause-ok
returns-clause-ok c =
    rw (← c.as_slice-expr-items.ensures.value) (all_in_groups c.args.types.now c.as_slice-expr-items.result.now c.loop-expr.expr-index (columns c.args.keys) (columns c.loop-expr.whole) (omega (arith, c.loop-expr-test.false)) c.loop-expr.invariant.so_far)

pub returns-in_err-put_new-clause-err : goal.returns-in_err-put_new-clause-err
returns-in_err-put_new-clause-err c =
    let items = c.as_slice-expr-items.result.now in
    let twice = λ (found : is_some (type_at (columns c.loop-expr.whole) (name_at c.expr-item.result)) ≡ true). name_twice items c.loop-expr.expr-index c.expr-item.result (names_of (columns c.args.keys) ++ map name_at items) (columns c.loop-expr.whole) c.loop-expr-test.true c.expr-item.is c.loop-expr.invariant.names found in
    rw (← c.as_slice-expr-items.ensures.value) (passed_on c.from_residual.result c.in_err-put_new.field-0.0 _ c.from_residual.ensures.1 (⊎_elim (λ e. inl e) (λ e. inr (e.0, twice e.1)) c.in_err-put_new.ensures.err))
