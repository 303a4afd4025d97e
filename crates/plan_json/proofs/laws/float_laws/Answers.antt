use Rattle.plan_json.proofs.Names.{BadFloat}
use Rattle.plan_json.proofs.FloatLaws.{own_tells}
use Rattle.plan_json.proofs.laws.float_laws.Goals as goal

pub returns-clause-float : goal.returns-clause-float
returns-clause-float c = λ form d. own_tells form d BadFloat
