-- What is said of answers whose refusals are turned into others, and of refused evaluations.
use Rattle.std.proofs.Common.{◌≡◌, ◌∙◌, true, Result, Ok, Err, IfOk, IsErr, IsErrAnd, MatchResult, [], ap, refl, sym, subst}
use Rattle.std.specs.Result.{is_ok}
use Rattle.plan_types.specs.FrameViews.{frame_of}
use Rattle.plan_types.specs.Outcomes.{Outcome, Done, Fault}
use Rattle.plan_types.specs.Frames.{Frame as Framed}
use Rattle.plan_types.specs.declared.error.PlanError.{PlanError}
use Rattle.plan_types.specs.declared.frame.Frame.{Frame}
use Rattle.plan_dsl.specs.PlanKernels.{work_frame}
use Rattle.plan_dsl.specs.Plans.{Work}
use Rattle.plan_exec.specs.Evaluations.{IsEvaluation, IsExecError}
use Rattle.plan_exec.specs.declared.error.ExecError.{ExecError}
use Rattle.plan_exec.specs.declared.error.ExecError.TheVariants.{DataFault, NoMemory}

-- what holds of a value that was answered, where a refusal would have been turned into another
pub ok_kept : {T E : Type 0} (F : Type 0) (P : T → Type 0) (Q : E → Type 0) (answer : Result T E) (value : T) → (let kept : Result T F = Ok value in MatchResult answer (λ other. kept ≡ Ok other) Q) → true ≡ is_ok answer → IfOk answer P → P value
ok_kept F P Q (Ok other) value is there holds = let same : other ≡ value = cc in subst P same holds
ok_kept F P Q (Err error) value is there holds = cc

is_error : (outcome : Outcome Framed) (error : ExecError) → (error ≡ DataFault → outcome ≡ Fault) → IsExecError outcome error
is_error outcome NoMemory fault = tt
is_error outcome DataFault fault = fault refl

-- a refusal that is a data fault only where there is one
pub refused : (work : Work) (frame : Framed) (result : Result Frame ExecError) (error : ExecError) → IsErr result → IsErrAnd result (λ made. made ≡ error) → (error ≡ DataFault → work_frame work [] frame ≡ Fault) → IsEvaluation work frame result
refused work frame (Ok made) error is same fault = cc
refused work frame (Err made) error is same fault = record { ok = tt; err = subst (IsExecError (work_frame work [] frame)) (sym same) (is_error (work_frame work [] frame) error fault) }

-- what an evaluation answers where memory alone can run out
pub evaluated : {Q : PlanError → Type 0} (work : Work) (frame made : Framed) (answer : Result Frame PlanError) (result : Result Frame ExecError) → MatchResult answer (λ found. result ≡ Ok found) Q → IfOk answer (λ found. frame_of found ≡ made) → work_frame work [] frame ≡ Done made → ((error : PlanError) → answer ≡ Err error → Q error → IsErrAnd result (λ refusal. refusal ≡ NoMemory)) → IsEvaluation work frame result
evaluated work frame made (Ok found) result same is gives refused =
    subst (IsEvaluation work frame) (sym same) (record { ok = gives ∙ ap Done (sym is); err = tt })
evaluated work frame made (Err error) (Ok found) same is gives refused = absurd (refused error refl same)
evaluated work frame made (Err error) (Err refusal) same is gives refused =
    record { ok = tt; err = subst (IsExecError (work_frame work [] frame)) (sym (refused error refl same)) tt }
