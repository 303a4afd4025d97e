-- What a function makes of a frame where it is asked first whether it breaks a rule.
use Rattle.std.specs.Prelude.{◌≡◌, ℕ, List, [], map, codes, Result, IfOk, IfErr}
use Rattle.std.specs.List.{Contains}
use Rattle.plan_types.specs.Outcomes.{Done, Fault}
use Rattle.plan_types.specs.FrameFaults.{shown}
use Rattle.plan_types.specs.Frames.{Frame as Framed}
use Rattle.plan_types.specs.FrameViews.{columns_of, frame_of}
use Rattle.plan_types.specs.declared.error.ErrorKind.{ErrorKind}
use Rattle.plan_types.specs.declared.frame.Frame.{Frame}
use Rattle.plan_dsl.specs.FunctionSchemas.{IsOneOf}
use Rattle.plan_dsl.specs.PlanKernels.{work_frame}
use Rattle.plan_dsl.specs.PlanRules.{work_kinds}
use Rattle.plan_dsl.specs.Plans.{Work}
use Rattle.plan_exec.specs.Evaluations.{IsExecError}
use Rattle.plan_report.specs.Report.{refusal_text}
use Rattle.table_functions.specs.Texts.{columns_text}
use Rattle.table_functions.specs.declared.runs.RunError.{RunError}
use Rattle.table_functions.specs.declared.runs.RunError.TheVariants.{Refused, Failed}

-- memory ran out, or the function breaks that rule; or it is run, and memory runs out or there is a data fault
abbrev pub IsRunError : Work → Framed → RunError → Type 0
IsRunError work frame (Refused error) = IsOneOf (work_kinds work frame.schema []) error
IsRunError work frame (Failed error) = IsExecError (work_frame work [] frame) error

-- a frame is made only where no rule is broken, and then it is the one that the definition gives
pub record IsRun (work : Work) (frame : Framed) (result : Result Frame RunError) : Type 0 where
  pub unbroken : IfOk result (λ made. work_kinds work frame.schema [] ≡ [])
  pub ok : IfOk result (λ made. work_frame work [] frame ≡ Done (frame_of made))
  pub err : IfErr result (IsRunError work frame)

-- a text tells the columns of the frame that a function gives; or that it gives a fault; or a rule that it breaks
pub data IsTold (work : Work) (frame : Framed) (text : List ℕ) : Type 0 where
  frame_told : (made : Frame) → work_frame work [] frame ≡ Done (frame_of made) → text ≡ columns_text (map shown (columns_of made)) → IsTold work frame text
  fault_told : work_frame work [] frame ≡ Fault → text ≡ codes "data fault\n" → IsTold work frame text
  refusal_told : (kind : ErrorKind) → Contains (work_kinds work frame.schema []) kind → text ≡ refusal_text kind [] → IsTold work frame text
