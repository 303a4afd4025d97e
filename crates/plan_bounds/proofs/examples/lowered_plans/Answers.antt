use Rattle.std.proofs.Common.{inr, refl}
use Rattle.plan_bounds.proofs.examples.lowered_plans.Goals as goal

pub returns-clause-scan : goal.returns-clause-scan
returns-clause-scan c = record { accepted = (refl, tt); strict = (tt, tt); names = (tt, tt); wide = (tt, tt) }

pub returns-clause-sum : goal.returns-clause-sum
returns-clause-sum c = record {
  accepted = (refl, ((refl, tt), tt));
  strict = ((((refl, refl), tt), tt), ((tt, tt), tt));
  names = ((((inr refl, (tt, ((tt, ((tt, tt), tt)), ((tt, tt), tt)))), tt), tt), ((tt, tt), tt));
  wide = (((refl, tt), tt), ((tt, tt), tt));
}

pub returns-clause-wide : goal.returns-clause-wide
returns-clause-wide c = (((refl, (refl, tt)), tt), ((tt, tt), tt))

pub returns-clause-without_the_cast : goal.returns-clause-without_the_cast
returns-clause-without_the_cast c = λ lowered. let strict = lowered.strict.0.0.0.1 in cc

pub returns-clause-narrow : goal.returns-clause-narrow
returns-clause-narrow c = λ wide. let few = wide.1.0.0.0.0 in cc
