use Rattle.plan_types.proofs.SupertypeLemmas.{supertype_symmetric, supertype_itself, supertype_holds}
use Rattle.plan_types.proofs.CastLemmas.{supertype_casts}
use Rattle.plan_types.proofs.laws.supertype_laws.Goals as goal

pub returns-clause-symmetric : goal.returns-clause-symmetric
returns-clause-symmetric c = supertype_symmetric

pub returns-clause-itself : goal.returns-clause-itself
returns-clause-itself c = supertype_itself

pub returns-clause-holds_both : goal.returns-clause-holds_both
returns-clause-holds_both c = supertype_holds

pub returns-clause-casts : goal.returns-clause-casts
returns-clause-casts c = supertype_casts
