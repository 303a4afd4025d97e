use Rattle.std.proofs.Common.{true, refl}
use Rattle.plan_types.specs.Types.{Integer}
use Rattle.plan_types.specs.declared.error.ErrorKind.TheVariants.{ColumnNotFound, InvalidOperation}
use Rattle.plan_lower.specs.Projection.{against, untyped}
use Rattle.plan_lower.proofs.examples.outputs.refusals_of_predicates.Goals as goal

pub returns-clause-no_such_column : goal.returns-clause-no_such_column
returns-clause-no_such_column c = untyped ColumnNotFound refl refl

pub returns-clause-number : goal.returns-clause-number
returns-clause-number c = against (record { type = Integer true 8; many = true }) InvalidOperation refl refl refl
