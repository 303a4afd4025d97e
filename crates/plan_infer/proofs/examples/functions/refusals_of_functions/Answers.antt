use Rattle.std.proofs.Common.{refl}
use Rattle.plan_types.specs.Errors.{broken}
use Rattle.plan_types.specs.declared.error.ErrorKind.TheVariants.{ComputeError, SchemaMismatch, InvalidOperation}
use Rattle.plan_infer.proofs.examples.functions.refusals_of_functions.Goals as goal

pub returns-clause-predicates : goal.returns-clause-predicates
returns-clause-predicates c = (broken InvalidOperation refl refl, (broken InvalidOperation refl refl, tt))

pub returns-clause-wide_number : goal.returns-clause-wide_number
returns-clause-wide_number c = (broken InvalidOperation refl refl, tt)

pub returns-clause-no_common_type : goal.returns-clause-no_common_type
returns-clause-no_common_type c = (broken SchemaMismatch refl refl, (broken SchemaMismatch refl refl, (broken SchemaMismatch refl refl, tt)))

pub returns-clause-members : goal.returns-clause-members
returns-clause-members c = (broken InvalidOperation refl refl, (broken InvalidOperation refl refl, (broken InvalidOperation refl refl, tt)))

pub returns-clause-lists : goal.returns-clause-lists
returns-clause-lists c = (broken InvalidOperation refl refl, (broken InvalidOperation refl refl, tt))

pub returns-clause-fields : goal.returns-clause-fields
returns-clause-fields c = (broken InvalidOperation refl refl, (broken InvalidOperation refl refl, tt))

pub returns-clause-many : goal.returns-clause-many
returns-clause-many c = (broken InvalidOperation refl refl, (broken InvalidOperation refl refl, tt))

pub returns-clause-numbers : goal.returns-clause-numbers
returns-clause-numbers c = (broken ComputeError refl refl, (broken ComputeError refl refl, (broken ComputeError refl refl, (broken ComputeError refl refl, (broken ComputeError refl refl, (broken ComputeError refl refl, (broken ComputeError refl refl, tt)))))))
