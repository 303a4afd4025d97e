use Rattle.std.proofs.Common.{refl, sym, ◌∙◌}
use Rattle.plan_types.specs.Errors.{broken}
use Rattle.plan_types.specs.declared.error.ErrorKind.TheVariants.{InvalidOperation}
use Rattle.plan_infer.proofs.OperandTypeLemmas.{refused_second}
use Rattle.plan_infer.proofs.operator_types.bits.truth_types.Goals as goal

pub returns-then-not-are_truths_or_nulls-clause-err : goal.returns-then-not-are_truths_or_nulls-clause-err
returns-then-not-are_truths_or_nulls-clause-err c =
    refused_second _ _ _ _ (sym c.are_truths_or_nulls.ensures ∙ c.if-not-are_truths_or_nulls.true) (broken InvalidOperation c.at_top.ensures refl)
