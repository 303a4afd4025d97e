use Rattle.std.proofs.Common.{not, refl, sym, ap, ◌∙◌}
use Rattle.plan_types.specs.Errors.{broken}
use Rattle.plan_types.specs.declared.error.ErrorKind.TheVariants.{InvalidOperation}
use Rattle.plan_infer.proofs.OperandTypeLemmas.{refused_first}
use Rattle.plan_infer.proofs.operator_types.arithmetic.arithmetic_types.Goals as goal

pub returns-then-not-are_bare-clause-err : goal.returns-then-not-are_bare-clause-err
returns-then-not-are_bare-clause-err c =
    refused_first _ _ _ _ (ap not (sym c.are_bare.ensures ∙ c.if-not-are_bare.true)) (broken InvalidOperation c.at_top.ensures refl)
