use Rattle.std.proofs.Common.{refl}
use Rattle.plan_types.specs.Errors.{broken}
use Rattle.plan_types.specs.declared.error.ErrorKind.TheVariants.{SchemaMismatch}
use Rattle.plan_types.proofs.examples.frames.refusals_of_calls.Goals as goal

pub returns-clause-refused : goal.returns-clause-refused
returns-clause-refused c = broken SchemaMismatch refl refl
