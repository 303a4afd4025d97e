use Rattle.std.proofs.Common.{refl}
use Rattle.plan_types.specs.Errors.{broken}
use Rattle.plan_types.specs.declared.error.ErrorKind.TheVariants.{ColumnNotFound, InvalidOperation}
use Rattle.plan_lower.specs.ExpressionFields.{has_no_type}
use Rattle.plan_lower.proofs.examples.horizontals.fields_of_horizontals.Goals as goal

pub returns-clause-no_truth : goal.returns-clause-no_truth
returns-clause-no_truth c = has_no_type refl (broken InvalidOperation refl refl)

pub returns-clause-unknown : goal.returns-clause-unknown
returns-clause-unknown c = has_no_type refl (broken ColumnNotFound refl refl)
