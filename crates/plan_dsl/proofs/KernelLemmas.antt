-- Plan nodes whose expressions are evaluated in two ways that agree.
use Rattle.std.proofs.Common.{◌≡◌, List, ◌∷◌, map, cond, refl, ap, subst, sym}
use Rattle.plan_types.specs.Schemas.{Columns}
use Rattle.plan_types.specs.Outcomes.{Outcome, Done, Fault, Stuck, then_do, Meets}
use Rattle.plan_types.specs.Frames.{Row, Frame, IsFrame, IsFrameOf, empty_frame}
use Rattle.plan_dsl.specs.Ops.{Expression}
use Rattle.plan_dsl.specs.Plans.{Named, Work}
use Rattle.plan_dsl.specs.PlanRules.{names_in}
use Rattle.plan_dsl.specs.PlanKernels.{Evaluation, gives_nothing, over_frame, work_frame}

abbrev frame_of : Columns → List Row → Frame
frame_of schema rows = record { schema = schema; rows = rows }

-- two evaluations say the same of expressions side by side, on every frame of the columns, and so of lists of them
abbrev pub AgreeOn : Columns → Evaluation → Evaluation → List (Named Expression) → List (Named Expression) → Type 0
AgreeOn schema e f xs ys = (rows : List Row) → IsFrame (frame_of schema rows) → map (e (frame_of schema rows)) xs ≡ map (f (frame_of schema rows)) ys

abbrev pub ListsAgreeOn : Columns → Evaluation → Evaluation → List (List (Named Expression)) → List (List (Named Expression)) → Type 0
ListsAgreeOn schema e f xs ys = (rows : List Row) → IsFrame (frame_of schema rows) → map (map (e (frame_of schema rows))) xs ≡ map (map (f (frame_of schema rows))) ys

pub lists_agree : (schema : Columns) (e f : Evaluation) (xs ys : List (Named Expression)) (us vs : List (List (Named Expression))) → AgreeOn schema e f xs ys → ListsAgreeOn schema e f us vs → ListsAgreeOn schema e f (xs ∷ us) (ys ∷ vs)
lists_agree schema e f xs ys us vs first later rows is =
    let here = first rows is in
    let there = later rows is in
    λ i. here i ∷ there i

on_frame : (e f : Evaluation) (xs ys : List (List (Named Expression))) (schema : Columns) (frame : Frame) → IsFrameOf schema frame → ListsAgreeOn schema e f xs ys → map (map (e frame)) xs ≡ map (map (f frame)) ys
on_frame e f xs ys schema frame is agree =
    subst (λ s. map (map (e (frame_of s frame.rows))) xs ≡ map (map (f (frame_of s frame.rows))) ys) (sym is.schema_is) (agree frame.rows (subst (λ s. IsFrame (frame_of s frame.rows)) is.schema_is is.frame_is))

pub first_is : {A : Type 0} (x y : A) (xs ys : List A) → (x ∷ xs) ≡ (y ∷ ys) → x ≡ y
first_is x y xs ys e = cc

work_agrees : (work : Work) (e f : Evaluation) (xs ys : List (List (Named Expression))) (schema : Columns) (input : Outcome Frame) → ListsAgreeOn schema e f xs ys → Meets (IsFrameOf schema) input → then_do input (λ frame. work_frame work (map (map (e frame)) xs) frame) ≡ then_do input (λ frame. work_frame work (map (map (f frame)) ys) frame)
work_agrees work e f xs ys schema (Done frame) agree meets = ap (λ answers. work_frame work answers frame) (on_frame e f xs ys schema frame meets agree)
work_agrees work e f xs ys schema Fault agree meets = refl
work_agrees work e f xs ys schema Stuck agree meets = refl

-- then a node over one input gives the same over lists of the same names
pub over_agrees : (work : Work) (e f : Evaluation) (xs ys : List (List (Named Expression))) (schema : Columns) (input : Outcome Frame) → map names_in xs ≡ map names_in ys → ListsAgreeOn schema e f xs ys → Meets (IsFrameOf schema) input → over_frame e work xs input ≡ over_frame f work ys input
over_agrees work e f xs ys schema input names agree meets =
    let gives = work_agrees work e f xs ys schema input agree meets in
    let nothing = ap (gives_nothing work) names in
    λ i. cond (nothing i) (Done empty_frame) (gives i)
