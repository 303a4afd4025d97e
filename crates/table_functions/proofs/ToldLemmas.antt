-- What is told of a function over a frame.
use Rattle.std.proofs.Common.{◌≡◌, ◌≢◌, ℕ, List, [], map, Result, Ok, Err, IfOk, inl, inr, ap, ◌∙◌}
use Rattle.plan_types.specs.FrameFaults.{shown}
use Rattle.plan_types.specs.FrameViews.{columns_of, frame_of}
use Rattle.plan_types.specs.Frames.{Frame as Framed}
use Rattle.plan_types.specs.Outcomes.{Done}
use Rattle.plan_types.specs.declared.error.ErrorKind.TheVariants.{NoMemory}
use Rattle.plan_types.specs.declared.error.PlanError.{PlanError}
use Rattle.plan_types.specs.declared.frame.Frame.{Frame}
use Rattle.plan_dsl.specs.FunctionSchemas.{IsOneOf}
use Rattle.plan_dsl.specs.PlanKernels.{work_frame}
use Rattle.plan_dsl.specs.PlanRules.{work_kinds}
use Rattle.plan_dsl.specs.Plans.{Work}
use Rattle.plan_report.specs.Report.{refusal_text}
use Rattle.table_functions.specs.Running.{IsTold, frame_told, refusal_told}
use Rattle.table_functions.specs.Texts.{columns_text}

module _ {T E : Type 0} (bytes : T → List ℕ) (work : Work) (frame : Framed) where
  pub frame_is_told : (result : Result T E) (made : Frame) → work_frame work [] frame ≡ Done (frame_of made) → IfOk result (λ text. bytes text ≡ columns_text (map shown (columns_of made))) → IfOk result (λ text. IsTold work frame (bytes text))
  frame_is_told (Err e) made given put = tt
  frame_is_told (Ok text) made given put = frame_told made given put

  pub refusal_is_told : (result : Result T E) (error : PlanError) → IsOneOf (work_kinds work frame.schema []) error → IfOk result (λ text. error.kind ≢ NoMemory) → IfOk result (λ text. bytes text ≡ refusal_text error.kind error.place) → IfOk result (λ text. IsTold work frame (bytes text))
  refusal_is_told (Err e) error broken known put = tt
  refusal_is_told (Ok text) error (inl memory) known put = absurd (known (ap (λ e. e.kind) memory))
  refusal_is_told (Ok text) error (inr broken) known put = refusal_told error.kind broken.1 (put ∙ ap (λ e. refusal_text error.kind e.place) broken.0)
