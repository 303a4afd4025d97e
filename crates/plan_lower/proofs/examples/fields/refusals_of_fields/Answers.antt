use Rattle.std.proofs.Common.{refl}
use Rattle.plan_types.specs.Errors.{broken}
use Rattle.plan_types.specs.declared.error.ErrorKind.TheVariants.{ColumnNotFound}
use Rattle.plan_lower.specs.ExpressionFields.{has_no_type}
use Rattle.plan_lower.proofs.examples.fields.refusals_of_fields.Goals as goal

pub returns-clause-no_such_column : goal.returns-clause-no_such_column
returns-clause-no_such_column c = has_no_type refl (broken ColumnNotFound refl refl)
