use Rattle.plan_json.proofs.Names.{declared, view}
use Rattle.plan_json.proofs.FitLemmas.{form_fits}
use Rattle.plan_json.specs.declared.forms.Kind.TheVariants.{Plan}
use Rattle.plan_json.proofs.read.read_plan.Goals as goal

pub plan-requires : goal.plan-requires
plan-requires c = form_fits (declared c.args.tables.now) Plan (view c.args.value.now) _ c.in-Ok.ensures.ok
