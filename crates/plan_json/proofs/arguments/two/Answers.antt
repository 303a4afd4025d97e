use Rattle.plan_json.proofs.Names.{[], subst, ◌∷◌, AllFit}
use Rattle.plan_json.proofs.arguments.two.Goals as goal

pub returns-clause-all : goal.returns-clause-all
returns-clause-all c = c.parts-first.ensures 2 c.requires

pub returns-clause-first : goal.returns-clause-first
returns-clause-first c p q fit = (subst (AllFit (p ∷ q ∷ [])) (c.parts-first.ensures 2 c.requires) fit).each.0

pub returns-clause-second : goal.returns-clause-second
returns-clause-second c p q fit = (subst (AllFit (p ∷ q ∷ [])) (c.parts-first.ensures 2 c.requires) fit).each.1.0
