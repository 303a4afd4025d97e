use Rattle.std.proofs.Common.{◌≡◌, ℕ, [], None, Some, pos, refl, ap, ◌∙◌}
use Rattle.std.proofs.lemmas.Bool.{false≢true}
use Rattle.plan_dsl.specs.PlanRules.{keeps_schema}
use Rattle.plan_dsl.specs.Plans.{Named, PlanKind, OverKind, PlanOp, Work, SliceWork}
use Rattle.plan_dsl.specs.Samples.{schema_ab}
use Rattle.plan_arena.specs.Layers.{Layer, op_of}
use Rattle.plan_arena.proofs.examples.nodes.items_over_an_input.Goals as goal

pub returns-clause-keeps : goal.returns-clause-keeps
returns-clause-keeps c = record { work = SliceWork (pos 0) 1; nodes = []; keeps = refl; is = refl }

pub returns-clause-another_input : goal.returns-clause-another_input
returns-clause-another_input c = λ keeps. let is = keeps.is in cc

pub returns-clause-a_recorded_schema : goal.returns-clause-a_recorded_schema
returns-clause-a_recorded_schema c = λ keeps. let recorded : Some schema_ab ≡ None = ap (λ (l : Layer (PlanOp (Named ℕ))). (op_of l).recorded) keeps.is in cc

abbrev work_of : PlanKind (Named ℕ) → Work
work_of (OverKind work lists) = work
work_of _ = SliceWork (pos 0) 0

pub returns-clause-a_wider_frame : goal.returns-clause-a_wider_frame
returns-clause-a_wider_frame c = λ keeps. false≢true (ap (λ (l : Layer (PlanOp (Named ℕ))). keeps_schema (work_of (op_of l).kind)) keeps.is ∙ keeps.keeps)

pub returns-clause-no_input : goal.returns-clause-no_input
returns-clause-no_input c = λ keeps. let is = keeps.is in cc
