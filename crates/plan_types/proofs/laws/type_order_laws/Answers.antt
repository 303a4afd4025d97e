use Rattle.plan_types.proofs.TypeOrderLemmas.{below_antisymmetric, below_casts, below_common, below_holds, below_itself, below_transitive, folded_above, folded_casts, folded_known, supertype_above}
use Rattle.plan_types.proofs.laws.type_order_laws.Goals as goal

pub returns-clause-itself : goal.returns-clause-itself
returns-clause-itself c = below_itself

pub returns-clause-transitive : goal.returns-clause-transitive
returns-clause-transitive c = below_transitive

pub returns-clause-antisymmetric : goal.returns-clause-antisymmetric
returns-clause-antisymmetric c = below_antisymmetric

pub returns-clause-above : goal.returns-clause-above
returns-clause-above c = supertype_above

pub returns-clause-common : goal.returns-clause-common
returns-clause-common c = below_common

pub returns-clause-holds : goal.returns-clause-holds
returns-clause-holds c = below_holds

pub returns-clause-casts : goal.returns-clause-casts
returns-clause-casts c = below_casts

pub returns-clause-folds : goal.returns-clause-folds
returns-clause-folds c = folded_above

pub returns-clause-folds_known : goal.returns-clause-folds_known
returns-clause-folds_known c = folded_known

pub returns-clause-folds_cast : goal.returns-clause-folds_cast
returns-clause-folds_cast c = folded_casts
