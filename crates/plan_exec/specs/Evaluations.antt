-- What a function makes of a frame, as it is answered.
use Rattle.std.specs.Prelude.{◌≡◌, [], Result, IfOk, IfErr}
use Rattle.plan_types.specs.Outcomes.{Outcome, Done, Fault}
use Rattle.plan_types.specs.Frames.{Frame as Framed}
use Rattle.plan_types.specs.FrameViews.{frame_of}
use Rattle.plan_types.specs.declared.frame.Frame.{Frame}
use Rattle.plan_dsl.specs.PlanKernels.{work_frame}
use Rattle.plan_dsl.specs.Plans.{Work}
use Rattle.plan_exec.specs.declared.error.ExecError.{ExecError}
use Rattle.plan_exec.specs.declared.error.ExecError.TheVariants.{DataFault, NoMemory}

-- memory ran out, which may stand in place of any answer, or there is a data fault
abbrev pub IsExecError : Outcome Framed → ExecError → Type 0
IsExecError outcome NoMemory = Unit {0}
IsExecError outcome DataFault = outcome ≡ Fault

-- the frame that a work without expressions gives on the frame, or a data fault where it gives one
pub record IsEvaluation (work : Work) (frame : Framed) (result : Result Frame ExecError) : Type 0 where
  pub ok : IfOk result (λ made. work_frame work [] frame ≡ Done (frame_of made))
  pub err : IfErr result (IsExecError (work_frame work [] frame))
