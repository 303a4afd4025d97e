use Rattle.std.proofs.Common.{◌≡◌, List, [], ◌∙◌, false, true, length, subst, sym, ap}
use Rattle.std.specs.Prelude.{slice_get}
use Rattle.plan_dsl.specs.declared.expr.Expr.{Expr}
use Rattle.plan_dsl.specs.Aliases.{is_written_out}
use Rattle.plan_dsl.specs.Ops.{FunctionOp}
use Rattle.plan_lower.specs.Horizontals.{IsWrittenBy}
use Rattle.plan_lower.proofs.HorizontalLemmas.{stays_named, written_first}
use Rattle.plan_lower.proofs.conversion.horizontals.first_written.Goals as goal

pub returns-in-Some-first : goal.returns-in-Some-first
returns-in-Some-first c =
    let by = c.in-Some.field-0 in
    let written = subst (λ (exprs : List Expr). IsWrittenBy c.args.function.now (length exprs) by.operator by.nothing) c.as_slice-exprs.ensures.value c.in-Some.ensures.1 in
    let at = ap (λ (exprs : List Expr). slice_get exprs 0) (sym c.as_slice-exprs.ensures.value) ∙ sym c.in-Some-first.ensures.value in
    (at, written_first c.args.function.now c.args.input.now by.operator by.nothing c.in-Some-first.first.now written at)

pub returns-in-None : goal.returns-in-None
returns-in-None c =
    stays_named c.args.function.now c.args.input.now (subst (λ (exprs : List Expr). is_written_out true (FunctionOp c.args.function.now []) (length exprs) ≡ false) c.as_slice-exprs.ensures.value c.in-None.ensures)
