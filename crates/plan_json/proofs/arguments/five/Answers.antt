use Rattle.plan_json.proofs.Names.{[], subst, ◌∷◌, AllFit}
use Rattle.plan_json.proofs.arguments.five.Goals as goal

pub returns-clause-all : goal.returns-clause-all
returns-clause-all c = c.parts.ensures 5 c.requires

pub returns-clause-first : goal.returns-clause-first
returns-clause-first c p q r s t fit = (subst (AllFit (p ∷ q ∷ r ∷ s ∷ t ∷ [])) (c.parts.ensures 5 c.requires) fit).each.0

pub returns-clause-second : goal.returns-clause-second
returns-clause-second c p q r s t fit = (subst (AllFit (p ∷ q ∷ r ∷ s ∷ t ∷ [])) (c.parts.ensures 5 c.requires) fit).each.1.0

pub returns-clause-third : goal.returns-clause-third
returns-clause-third c p q r s t fit = (subst (AllFit (p ∷ q ∷ r ∷ s ∷ t ∷ [])) (c.parts.ensures 5 c.requires) fit).each.1.1.0

pub returns-clause-fourth : goal.returns-clause-fourth
returns-clause-fourth c p q r s t fit = (subst (AllFit (p ∷ q ∷ r ∷ s ∷ t ∷ [])) (c.parts.ensures 5 c.requires) fit).each.1.1.1.0

pub returns-clause-fifth : goal.returns-clause-fifth
returns-clause-fifth c p q r s t fit = (subst (AllFit (p ∷ q ∷ r ∷ s ∷ t ∷ [])) (c.parts.ensures 5 c.requires) fit).each.1.1.1.1.0
