use Rattle.std.proofs.Common.{false, sym, ◌∙◌}
use Rattle.plan_types.proofs.ResultLemmas.{passed_on}
use Rattle.plan_types.specs.Errors.{broken}
use Rattle.plan_types.specs.Types.{ty}
use Rattle.plan_types.specs.declared.error.ErrorKind.TheVariants.{InvalidOperation}
use Rattle.plan_infer.proofs.FunctionTypeLemmas.{integers_found, integers_refused, times_apart}
use Rattle.plan_infer.proofs.function_types.apart_type.Goals as goal

pub returns-in_err-found-3-clause-err : goal.returns-in_err-found-3-clause-err
returns-in_err-found-3-clause-err c =
    passed_on c.from_residual-in_err-found-3.result c.in_err-found-3.field-0.0 _ c.from_residual-in_err-found-3.ensures.1 (integers_refused (ty c.args.value.now) (ty c.args.item.now) _ (sym c.are_integers.ensures ∙ c.if-are_integers.true) c.in_err-found-3.ensures.err)

pub returns-then-are_integers-clause-ok : goal.returns-then-are_integers-clause-ok
returns-then-are_integers-clause-ok c =
    integers_found (ty c.args.value.now) (ty c.args.item.now) _ (sym c.are_integers.ensures ∙ c.if-are_integers.true) c.in_ok-found-3.ensures.ok

pub returns-then-not-is_finer-clause-err : goal.returns-then-not-is_finer-clause-err
returns-then-not-is_finer-clause-err c =
    broken InvalidOperation c.at_top.ensures (times_apart (ty c.args.value.now) (ty c.args.item.now) false (sym c.is_null.ensures ∙ c.if-is_null.false) (sym c.is_null-2.ensures ∙ c.if-is_null-2.false) (sym c.are_integers.ensures ∙ c.if-are_integers.false) (sym c.is_finer.ensures ∙ c.if-not-is_finer.true))
