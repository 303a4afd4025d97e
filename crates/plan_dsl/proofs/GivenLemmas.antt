-- Operands that mean types give columns of them. So a node that goes by the columns of its operands means its own type where
-- its kernel gives values of that.
use Rattle.std.proofs.Common.{◌≡◌, ℕ, List, [], ◌∷◌, sym, subst}
use Rattle.plan_types.specs.Values.{Val}
use Rattle.plan_types.specs.Outcomes.{Done, Meets, then_do}
use Rattle.plan_types.specs.Frames.{Frame}
use Rattle.plan_types.proofs.ValueLemmas.{meets_then}
use Rattle.plan_dsl.specs.Registry.{Registry}
use Rattle.plan_dsl.specs.Ops.{Op}
use Rattle.plan_dsl.specs.Typing.{Typed, Ruling}
use Rattle.plan_dsl.specs.Kernels.{Meaning, given, kernel}
use Rattle.plan_dsl.specs.Meaning.{applied}
use Rattle.plan_dsl.specs.Laws.{AreOf}
use Rattle.plan_dsl.proofs.ColumnLemmas.{AreAllOf}

-- on any rows it is not stuck, and gives values of that typing
abbrev pub MeansType : Typed → Meaning → Type 0
MeansType typed means = (rows : List ℕ) → Meets (AreOf typed) (means rows)

-- each does, one by one
abbrev pub AllMean : List Typed → List Meaning → Type 0
AllMean [] [] = Unit {0}
AllMean (t ∷ ts) (m ∷ ms) = MeansType t m × AllMean ts ms
AllMean [] (m ∷ ms) = ⊥
AllMean (t ∷ ts) [] = ⊥

-- operands that mean their types give columns of them
pub given_meet : (typed : List Typed) (operands : List Meaning) → AllMean typed operands → (rows : List ℕ) → Meets (AreAllOf typed) (given operands rows)
given_meet [] [] h rows = tt
given_meet [] (m ∷ ms) h rows = absurd h
given_meet (t ∷ ts) [] h rows = absurd h
given_meet (t ∷ ts) (m ∷ ms) h rows =
    meets_then (AreOf t) (AreAllOf (t ∷ ts)) (m rows) (λ column. then_do (given ms rows) (λ columns. Done (column ∷ columns))) (h.0 rows) (λ column of.
    meets_then (AreAllOf ts) (AreAllOf (t ∷ ts)) (given ms rows) (λ columns. Done (column ∷ columns)) (given_meet ts ms h.1 rows) (λ columns all. (of, all)))

-- a node gives what its kernel makes of the columns of its operands, as all do but windows
abbrev pub GoesByColumns : Op → Type 0
GoesByColumns op = (registry : Registry) (frame : Frame) (ruling : Ruling) (operands : List Meaning) (rows : List ℕ)
    → applied registry frame op ruling operands rows ≡ then_do (given operands rows) (kernel registry frame rows op ruling.operands ruling.own.type)

pub by_columns : (registry : Registry) (frame : Frame) (op : Op) → GoesByColumns op → (typed : List Typed) (ruling : Ruling)
    → ((rows : List ℕ) (columns : List (List Val)) → AreAllOf typed columns → Meets (AreOf ruling.own) (kernel registry frame rows op ruling.operands ruling.own.type columns))
    → (operands : List Meaning) → AllMean typed operands → MeansType ruling.own (applied registry frame op ruling operands)
by_columns registry frame op goes typed ruling each operands mean rows =
    subst (Meets (AreOf ruling.own)) (sym (goes registry frame ruling operands rows))
    (meets_then (AreAllOf typed) (AreOf ruling.own) (given operands rows) (kernel registry frame rows op ruling.operands ruling.own.type) (given_meet typed operands mean rows) (each rows))
