use Rattle.plan_json.proofs.Names.{[], subst, ◌∷◌, AllFit}
use Rattle.plan_json.proofs.arguments.one.Goals as goal

pub returns-clause-all : goal.returns-clause-all
returns-clause-all c = c.parts-first.ensures 1 c.requires

pub returns-clause-first : goal.returns-clause-first
returns-clause-first c p fit = (subst (AllFit (p ∷ [])) (c.parts-first.ensures 1 c.requires) fit).each.0
