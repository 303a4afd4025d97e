use Rattle.plan_json.proofs.Names.{ap}
use Rattle.plan_json.specs.Arguments.{args_view}
use Rattle.plan_json.proofs.FitLemmas.{shows}
use Rattle.plan_json.proofs.arguments.parts.Goals as goal

pub returns-in-One : goal.returns-in-One
returns-in-One c count shown = shows count 1 c.args.args _ (ap args_view c.in-One.is) shown

pub returns-in-Listed : goal.returns-in-Listed
returns-in-Listed c count shown = shows count c.in-Listed.field-0.count c.args.args _ (ap args_view c.in-Listed.is) shown
