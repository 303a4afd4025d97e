use Rattle.plan_types.proofs.CastLemmas.{cast_itself, cast_never_fails, cast_own, given_fits}
use Rattle.plan_types.proofs.laws.cast_laws.Goals as goal

pub returns-clause-itself : goal.returns-clause-itself
returns-clause-itself c = cast_itself

pub returns-clause-never_fails : goal.returns-clause-never_fails
returns-clause-never_fails c = cast_never_fails

pub returns-clause-fits : goal.returns-clause-fits
returns-clause-fits c = given_fits

pub returns-clause-own : goal.returns-clause-own
returns-clause-own c = cast_own
