use Rattle.std.proofs.Common.{refl, sym}
use Rattle.std.proofs.lemmas.Bool.{false≢true}
use Rattle.plan_lower.proofs.examples.works.plain_works.Goals as goal

pub returns-clause-distinct : goal.returns-clause-distinct
returns-clause-distinct c = record { expanded = refl; resolved = refl; unbroken = refl; whole = tt; something = refl; other = refl }

pub returns-clause-other_strategy : goal.returns-clause-other_strategy
returns-clause-other_strategy c = λ is. let resolved = is.resolved in cc

pub returns-clause-absent : goal.returns-clause-absent
returns-clause-absent c = λ is. let unbroken = is.unbroken in cc

pub returns-clause-with_an_expression : goal.returns-clause-with_an_expression
returns-clause-with_an_expression c = λ is. let expanded = is.expanded in cc

pub returns-clause-function : goal.returns-clause-function
returns-clause-function c = record { expanded = refl; resolved = refl; unbroken = refl; whole = tt; something = refl; other = refl }

pub returns-clause-nothing : goal.returns-clause-nothing
returns-clause-nothing c = λ is. false≢true (sym is.other)
