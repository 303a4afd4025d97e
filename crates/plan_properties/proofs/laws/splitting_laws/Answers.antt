use Rattle.plan_properties.proofs.FilterLemmas.{splitting_keeps_plans, splitting_keeps_schemas}
use Rattle.plan_properties.proofs.SplittingLemmas.{parts_are_conditions, splitting_keeps_frames}
use Rattle.plan_properties.proofs.laws.splitting_laws.Goals as goal

pub returns-clause-frames : goal.returns-clause-frames
returns-clause-frames c = splitting_keeps_frames

pub returns-clause-parts : goal.returns-clause-parts
returns-clause-parts c = parts_are_conditions

pub returns-clause-plans : goal.returns-clause-plans
returns-clause-plans c = splitting_keeps_plans

pub returns-clause-schemas : goal.returns-clause-schemas
returns-clause-schemas c = splitting_keeps_schemas
