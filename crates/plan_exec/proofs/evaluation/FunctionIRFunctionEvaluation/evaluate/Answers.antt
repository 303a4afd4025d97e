use Rattle.std.proofs.Common.{◌∙◌, [], ap, sym}
use Rattle.plan_types.specs.FrameViews.{frame_of}
use Rattle.plan_types.specs.Outcomes.{Done}
use Rattle.plan_dsl.specs.PlanKernels.{work_frame}
use Rattle.plan_dsl.specs.Plans.{function_work}
use Rattle.plan_dsl.specs.TableFrames.{unnested_on}
use Rattle.plan_exec.proofs.AnswerLemmas.{evaluated}
use Rattle.plan_exec.proofs.evaluation.FunctionIRFunctionEvaluation.evaluate.Goals as goal

pub returns-in-Unnest : goal.returns-in-Unnest
returns-in-Unnest c =
    let frame = frame_of c.args.frame in
    let gives = ap (λ function. work_frame (function_work function) [] frame) c.in-Unnest.is ∙ ap (λ names. Done (unnested_on names frame)) (sym c.as_slice-in-Unnest.ensures.value) in
    evaluated (function_work c.args.self.now) frame (unnested_on c.as_slice-in-Unnest.result.now frame) c.unnested-made.result c.map_err-in-Unnest.result c.map_err-in-Unnest.ensures.cases c.unnested-made.ensures.ok gives (λ error is refused. refused)
