-- Why operands are refused.
use Rattle.std.proofs.Common.{◌≡◌, Bool, true, false, cond, not, ◌&&◌, ◌||◌, List, [], ◌∷◌, Option, Some, None, Result, Ok, Err, IfOk, refl, ap, ◌∙◌, ⊎_elim}
use Rattle.std.specs.Result.{IsErrAnd}
use Rattle.plan_types.specs.Types.{Ty, Truth, TextType, is_bare, is_known}
use Rattle.plan_types.specs.CommonTypes.{type_beside}
use Rattle.plan_types.specs.Supertypes.{supertype}
use Rattle.plan_types.proofs.CommonLemmas.{own_beside}
use Rattle.plan_types.specs.Errors.{IsMemoryOr, IsRefusal, no_room, broken}
use Rattle.plan_types.specs.declared.error.ErrorKind.{ErrorKind}
use Rattle.plan_types.specs.declared.error.ErrorKind.TheVariants.{SchemaMismatch, InvalidOperation}
use Rattle.plan_types.specs.declared.error.PlanError.{PlanError}
use Rattle.plan_dsl.specs.OperatorTypes.{Taken, both_to, comparison_types, has_parts, is_joined, is_text_beside, number_types, order_types, pair_to, text_types, with_types}
use Rattle.plan_dsl.specs.declared.operator.Operator.{Operator}
use Rattle.plan_dsl.specs.declared.operator.Operator.TheVariants.{Plus}
use Rattle.plan_dsl.proofs.TypingLemmas.{ok_same}

-- operands without a common type
pub no_common : (common : Option Ty) (result : Ty → Ty) (error : PlanError) → IsMemoryOr SchemaMismatch (common ≡ None) error → IsRefusal (both_to common result) error
no_common common result error h = ⊎_elim (λ e. no_room e) (λ p. broken SchemaMismatch p.0 (ap (λ o. both_to o result) p.1)) h

-- and numbers without one
no_number : (op : Operator) → number_types op None ≡ Err SchemaMismatch
no_number Plus = refl
no_number op = refl

pub no_common_number : (op : Operator) (common : Option Ty) (error : PlanError) → IsMemoryOr SchemaMismatch (common ≡ None) error → IsRefusal (number_types op common) error
no_common_number op common error h = ⊎_elim (λ e. no_room e) (λ p. broken SchemaMismatch p.0 (ap (number_types op) p.1 ∙ no_number op)) h

-- texts are joined, and nothing else is done to them
pub unjoined : (op : Operator) (left right : Ty) → (is_joined left && is_joined right) ≡ false → text_types op left right ≡ Err InvalidOperation
unjoined Plus left right h = ap (λ b. cond b (Ok (pair_to TextType TextType TextType)) (Err InvalidOperation)) h
unjoined op left right h = refl

pub text_alone : (op : Operator) (left right : Ty) → (op ≡ Plus → ⊥) → text_types op left right ≡ Err InvalidOperation
text_alone Plus left right other = absurd (other refl)
text_alone op left right other = refl

-- truth values are added alone
pub truths_alone : (op : Operator) → (op ≡ Plus → ⊥) → number_types op (Some Truth) ≡ Err InvalidOperation
truths_alone Plus other = absurd (other refl)
truths_alone op other = refl

-- operands that are compared by order are of a common type without parts
first_is : (x y : Ty) (xs ys : List Ty) → (x ∷ xs) ≡ (y ∷ ys) → x ≡ y
first_is x y xs ys e = cc

common_is : (apart : Bool) (common : Option Ty) (left right type : Ty) → cond apart (Err InvalidOperation) (both_to common (λ common. Truth)) ≡ Ok (pair_to left right type) → common ≡ Some left
common_is true common left right type h = cc
common_is false None left right type h = cc
common_is false (Some common) left right type h =
    ap Some (first_is common left (common ∷ []) (right ∷ []) (ap (λ (t : Taken). t.operands) (ok_same _ (pair_to common common Truth) (pair_to left right type) refl h)))

pub ordered : (left right common other type : Ty) (bare : Bool) → comparison_types left right ≡ Ok (pair_to common other type) → is_bare common ≡ bare → order_types left right ≡ cond (not bare) (Err InvalidOperation) (Ok (pair_to common other type))
ordered left right common other type bare h is =
    let compared = comparison_types left right in
    ap (λ o. cond (has_parts o) (Err InvalidOperation) compared) (common_is (is_text_beside left right || is_text_beside right left) (supertype left right) common other type h)
    ∙ ap (λ b. cond (not b) (Err InvalidOperation) compared) is
    ∙ ap (cond (not bare) (Err InvalidOperation)) h

-- and those that aren't compared have no order either
refused_either : (apart bare : Bool) (taken : Taken) (error : PlanError) → IsRefusal (cond apart (Err InvalidOperation) (Ok taken)) error → IsRefusal (cond (not bare) (Err InvalidOperation) (cond apart (Err InvalidOperation) (Ok taken))) error
refused_either apart true taken error refused = refused
refused_either true false taken error refused = refused
refused_either false false taken error (no_room e) = no_room e
refused_either false false taken error (broken kind e b) = cc

unordered_by : (apart : Bool) (common : Option Ty) (error : PlanError) → IsRefusal (cond apart (Err InvalidOperation) (both_to common (λ common. Truth))) error → IsRefusal (cond (has_parts common) (Err InvalidOperation) (cond apart (Err InvalidOperation) (both_to common (λ common. Truth)))) error
unordered_by apart None error refused = refused
unordered_by apart (Some common) error refused = refused_either apart (is_bare common) (pair_to common common Truth) error refused

pub unordered : (left right : Ty) (error : PlanError) → IsRefusal (comparison_types left right) error → IsRefusal (order_types left right) error
unordered left right error refused = unordered_by (is_text_beside left right || is_text_beside right left) (supertype left right) error refused

-- operands of types of columns keep them
pub with_own : (left right : Ty) (take : Ty → Ty → Result Taken ErrorKind) → is_known left ≡ true → is_known right ≡ true → with_types (type_beside left right) (type_beside right left) take ≡ take left right
with_own left right take known other =
    ap (λ o. with_types o (type_beside right left) take) (own_beside left right known) ∙ ap (λ o. with_types (Some left) o take) (own_beside right left other)

-- operands of which one has no type
pub without_left : (left right : Option Ty) (take : Ty → Ty → Result Taken ErrorKind) (error : PlanError) → IsMemoryOr InvalidOperation (left ≡ None) error → IsRefusal (with_types left right take) error
without_left left right take error h = ⊎_elim (λ e. no_room e) (λ p. broken InvalidOperation p.0 (ap (λ o. with_types o right take) p.1)) h

pub without_right : (left right : Option Ty) (own : Ty) (take : Ty → Ty → Result Taken ErrorKind) (error : PlanError) → left ≡ Some own → IsMemoryOr InvalidOperation (right ≡ None) error → IsRefusal (with_types left right take) error
without_right left right own take error is h =
    ⊎_elim (λ e. no_room e) (λ p. broken InvalidOperation p.0 (ap (λ o. with_types o right take) is ∙ ap (λ o. with_types (Some own) o take) p.1)) h

-- a refusal by the first of two rules, or by the second
pub refused_first : {A : Type 0} (first : Bool) (x y : Result A ErrorKind) (error : PlanError) → first ≡ true → IsRefusal x error → IsRefusal (cond first x y) error
refused_first true x y error h refused = refused
refused_first false x y error h refused = cc

pub refused_second : {A : Type 0} (first : Bool) (x y : Result A ErrorKind) (error : PlanError) → first ≡ false → IsRefusal y error → IsRefusal (cond first x y) error
refused_second true x y error h refused = cc
refused_second false x y error h refused = refused

-- an error that is handed on is no answer
pub no_answer : {T E : Type 0} (r : Result T E) (e : E) (Q : T → Type 0) → IsErrAnd r (λ y. y ≡ e) → IfOk r Q
no_answer (Ok x) e Q h = absurd h
no_answer (Err y) e Q h = tt
