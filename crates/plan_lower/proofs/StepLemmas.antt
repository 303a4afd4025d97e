-- A plan's node over its only input, whatever it does.
use Rattle.std.proofs.Common.{◌≡◌, ℕ, List, ◌++◌, reverse, refl, ◌∙◌}
use Rattle.std.proofs.lemmas.List.{append-nil}
use Rattle.plan_types.specs.Schemas.{Columns}
use Rattle.plan_dsl.specs.Expressions.{tree_of}
use Rattle.plan_dsl.specs.Plans.{HitsOption, OrderOption, PlanOption, ProjectionOption, SourcePlan, stats_options, unknown_hits}
use Rattle.plan_dsl.specs.Registry.{Registry}
use Rattle.plan_dsl.specs.Resolving.{resolved}
use Rattle.plan_dsl.specs.declared.function.DslFunction.TheVariants.{Stats}
use Rattle.plan_arena.specs.declared.aexpr.AExpr.{AExpr}
use Rattle.plan_arena.specs.declared.ir.IR.{IR}
use Rattle.plan_arena.specs.Items.{Grows}
use Rattle.plan_arena.proofs.OptionLemmas.{options_over}
use Rattle.plan_lower.specs.declared.conversion.step.Step.{Step}
use Rattle.plan_lower.specs.declared.conversion.step.Plain.TheVariants.{Cache}
use Rattle.plan_lower.specs.declared.conversion.step.Step.TheVariants.{Distinct, Filter, Function, GroupBy, HStack, Plain as Unexpressed, Select}
use Rattle.plan_lower.specs.Lowering.{StandsFor}
use Rattle.plan_lower.specs.Nodes.{KeepsExpressions}
use Rattle.plan_lower.specs.Steps.{IsStepAt, source_step, step_lists, step_option, step_work}
use Rattle.plan_lower.proofs.PlanLemmas.{filter_stands}
use Rattle.plan_lower.proofs.WorkLemmas.{work_stands}

-- the option of a step's node comes behind those of the items below
pub step_options : (step : Step) (below old mid new : List PlanOption) → mid ≡ old ++ reverse below → new ≡ mid ++ step_option step → new ≡ old ++ reverse (step_option step ++ below)
step_options (Select exprs options) below old mid new under here = options_over (ProjectionOption options) below old mid new under here
step_options (HStack exprs options) below old mid new under here = options_over (ProjectionOption options) below old mid new under here
step_options (GroupBy keys aggs maintain_order) below old mid new under here = options_over (OrderOption maintain_order) below old mid new under here
step_options (Distinct options) below old mid new under here = options_over (OrderOption options.maintain_order) below old mid new under here
step_options (Unexpressed (Cache id)) below old mid new under here = options_over (HitsOption unknown_hits) below old mid new under here
step_options (Function (Stats statistic)) below old mid new under here = options_over (ProjectionOption stats_options) below old mid new under here
step_options step below old mid new under here = here ∙ append-nil mid ∙ under

-- what a step becomes over what its input becomes stands for it
pub step_stands : (registry : Registry) (step : Step) (items items' : List AExpr) (plans new : List IR) (input n : ℕ) (schema own : Columns) (source : SourcePlan) → KeepsExpressions items items' → Grows plans new → StandsFor registry items plans input schema (resolved registry source) → IsStepAt registry schema items' new n input step own → StandsFor registry items' new n own (resolved registry (source_step step source))
step_stands registry (Filter predicate) items items' plans new input n schema own source keeps grows s is =
    filter_stands registry items items' plans new input n schema own (tree_of predicate) source keeps grows s is.0 is.1
step_stands registry step items items' plans new input n schema own source keeps grows s is =
    work_stands registry (step_work step) (step_lists step) items items' plans new input n schema own source keeps grows s is
