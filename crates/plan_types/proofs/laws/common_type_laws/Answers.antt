use Rattle.plan_types.proofs.CommonLemmas.{common_symmetric, common_known, common_itself, common_has_left, common_casts}
use Rattle.plan_types.proofs.laws.common_type_laws.Goals as goal

pub returns-clause-symmetric : goal.returns-clause-symmetric
returns-clause-symmetric c = common_symmetric

pub returns-clause-known : goal.returns-clause-known
returns-clause-known c = common_known

pub returns-clause-itself : goal.returns-clause-itself
returns-clause-itself c = common_itself

pub returns-clause-has_number : goal.returns-clause-has_number
returns-clause-has_number c = common_has_left

pub returns-clause-casts : goal.returns-clause-casts
returns-clause-casts c = common_casts
