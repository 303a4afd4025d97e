use Rattle.std.proofs.Common.{refl}
use Rattle.plan_types.specs.declared.error.ErrorKind.TheVariants.{ColumnNotFound, InvalidOperation}
use Rattle.plan_lower.specs.Projection.{untyped}
use Rattle.plan_lower.proofs.examples.horizontals.refusals_of_horizontals.Goals as goal

pub returns-clause-unknown_first : goal.returns-clause-unknown_first
returns-clause-unknown_first c = untyped ColumnNotFound refl refl

pub returns-clause-unknown_between : goal.returns-clause-unknown_between
returns-clause-unknown_between c = untyped ColumnNotFound refl refl

pub returns-clause-unknown_last : goal.returns-clause-unknown_last
returns-clause-unknown_last c = untyped ColumnNotFound refl refl

pub returns-clause-number_first : goal.returns-clause-number_first
returns-clause-number_first c = untyped InvalidOperation refl refl

pub returns-clause-number_between : goal.returns-clause-number_between
returns-clause-number_between c = untyped InvalidOperation refl refl

pub returns-clause-number_last : goal.returns-clause-number_last
returns-clause-number_last c = untyped InvalidOperation refl refl

pub returns-clause-predicate : goal.returns-clause-predicate
returns-clause-predicate c = untyped ColumnNotFound refl refl
