use Rattle.std.proofs.Common.{◌≡◌, ℕ, zero, suc, List, [], ◌∷◌, refl, ap, subst, arith, inl, inr, ⊎_elim}
use Rattle.plan_types.specs.Errors.{IsRefusal, at_top, no_memory, broken, no_room}
use Rattle.plan_types.specs.declared.error.PlanError.{PlanError}
use Rattle.plan_types.specs.declared.error.ErrorKind.{ErrorKind}
use Rattle.plan_types.specs.declared.error.ErrorKind.TheVariants.{ColumnNotFound, InvalidOperation, NoMemory}
use Rattle.plan_dsl.specs.Ops.{Expression}
use Rattle.plan_dsl.specs.Typing.{typing}
use Rattle.plan_arena.specs.Denotation.{Denotes}
use Rattle.plan_arena.specs.Items.{HoldsExpression}
use Rattle.plan_infer.specs.Samples.{int32, of_type, a, a_items, sum, refused}
use Rattle.plan_coerce.proofs.ExampleLemmas.{no_column_root, no_node, one_denoted, no_column_typed, number_alone, sum_denotes}
use Rattle.plan_coerce.proofs.SettledLemmas.{settled_no_number}
use Rattle.plan_coerce.proofs.examples.optimizer.refusals_of_coercion.Goals as goal

pub returns-clause-no_such_column : goal.returns-clause-no_such_column
returns-clause-no_such_column c = record {
  cause = inr (record { node = 0; tree = a; denotes = ([], refl, tt); is = broken ColumnNotFound refl refl; near = λ n is. inr (record { steps = 0; path = inl refl }) });
  typed = λ roots. absurd (no_column_typed roots.0.tree roots.0.typed roots.0.denotes roots.0.is);
  numbers = λ n is settles roots. absurd (no_column_root roots);
}

pub returns-clause-memory : goal.returns-clause-memory
returns-clause-memory c = record { cause = inl refl; typed = λ roots. refl; numbers = λ n is settles roots. refl }

other_kind : at_top ColumnNotFound ≡ no_memory → ⊥
other_kind e = let kinds : ColumnNotFound ≡ NoMemory = ap (λ (error : PlanError). error.kind) e in cc

pub returns-clause-over_typed_roots : goal.returns-clause-over_typed_roots
returns-clause-over_typed_roots c = λ refusal.
    other_kind (refusal.typed (record { tree = sum; denotes = sum_denotes; typed = of_type int32; is = refl; known = λ settles. refl }, tt))

pub returns-clause-over_a_number : goal.returns-clause-over_a_number
returns-clause-over_a_number c = λ refusal. other_kind (refusal.numbers 1 refl (settled_no_number [] []) number_alone)

no_place : (n : ℕ) (ns : List ℕ) → n ∷ ns ≡ [] → ⊥
no_place n ns e = cc

place_apart : (kind other : ErrorKind) → refused kind (0 ∷ []) ≡ at_top other → ⊥
place_apart kind other e = no_place 0 [] (ap (λ (error : PlanError). error.place) e)

pub returns-clause-at_a_place : goal.returns-clause-at_a_place
returns-clause-at_a_place c = λ refusal.
    ⊎_elim (place_apart ColumnNotFound NoMemory) (λ at. elim at.is as (λ _. ⊥) [ no_room e ↦ place_apart ColumnNotFound NoMemory e | broken kind e is ↦ place_apart ColumnNotFound kind e ]) refusal.cause

-- the only node has no such column, and breaks nothing else
pub returns-clause-other_kind : goal.returns-clause-other_kind
returns-clause-other_kind c = λ refusal. ⊎_elim
    (λ e. let kinds : InvalidOperation ≡ NoMemory = ap (λ (error : PlanError). error.kind) e in cc)
    (λ at. only_kind at.node at.tree at.denotes at.is)
    refusal.cause where
      only_kind : (n : ℕ) (t : Expression) → Denotes (HoldsExpression a_items) n t → IsRefusal (typing [] [] t) (at_top InvalidOperation) → ⊥
      only_kind zero t d is =
          let here = subst (λ u. IsRefusal (typing [] [] u) (at_top InvalidOperation)) (one_denoted a_items 0 t a d ([], refl, tt)) is in
          elim here as (λ _. ⊥) [
            | no_room e ↦ let kinds : InvalidOperation ≡ NoMemory = ap (λ (error : PlanError). error.kind) e in cc
            | broken kind e of ↦
                let kinds : InvalidOperation ≡ kind = ap (λ (error : PlanError). error.kind) e in
                let found : ColumnNotFound ≡ kind = cc in
                cc
          ]
      only_kind (suc n) t d is = no_node a_items (suc n) t (omega arith) d
