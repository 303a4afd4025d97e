use Rattle.std.proofs.Common.{refl}
use Rattle.plan_properties.proofs.examples.filters_in_parts.Goals as goal

pub returns-clause-conditions : goal.returns-clause-conditions
returns-clause-conditions c = (
  record { own = _; typed = refl; truth = refl; strict = refl },
  (record { own = _; typed = refl; truth = refl; strict = refl }, (record { own = _; typed = refl; truth = refl; strict = refl }, tt)),
)

pub returns-clause-no_condition : goal.returns-clause-no_condition
returns-clause-no_condition c = λ h. cc

pub returns-clause-not_strict : goal.returns-clause-not_strict
returns-clause-not_strict c = λ h. cc
