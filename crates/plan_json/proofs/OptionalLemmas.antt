-- What is null or of a form.
use Rattle.plan_json.proofs.Names.{None, Option, Some, ap, is_some, option_map, refl, ◌∙◌, ◌≡◌, Data, a_text, as_null, shape_fault, text_of, unless, IsErrorOf, JsonError}
use Rattle.serde_json.specs.Data.{null}
use Rattle.plan_json.specs.Faults.{a_natural, an_optional_natural, an_optional_text}
use Rattle.plan_json.specs.Leaves.{natural_of, or_null}
use Rattle.plan_json.proofs.FaultLemmas.{stricter_error}

pub null_read : {A : Type 0} (read : Data → Option A) (d : Data) → Some tt ≡ as_null d → or_null read d ≡ Some None
null_read read null is = refl
null_read read _ is = cc

pub some_read : {A : Type 0} (read : Data → Option A) (d : Data) (x : A) → None ≡ as_null d → read d ≡ Some x → or_null read d ≡ Some (Some x)
some_read read null x none is = cc
some_read read d x none is = ap (option_map (λ y. Some y)) is

-- what is no null is of the form where it is this
same_shape : {A : Type 0} (read : Data → Option A) (d : Data) → None ≡ as_null d → is_some (or_null read d) ≡ is_some (read d)
same_shape read null none = cc
same_shape {A} read d none = elim (read d) as (λ (o : Option A). is_some (option_map (λ y. Some y) o) ≡ is_some o) [ None ↦ refl | Some x ↦ refl ]

pub text_error : (d : Data) (error : JsonError) → None ≡ as_null d → IsErrorOf a_text d error → IsErrorOf an_optional_text d error
text_error d error none bad = stricter_error a_text an_optional_text d (λ kind h. ap (unless (shape_fault d)) (same_shape text_of d none) ∙ h) (λ step. refl) error bad

pub natural_error : (d : Data) (error : JsonError) → None ≡ as_null d → IsErrorOf a_natural d error → IsErrorOf an_optional_natural d error
natural_error d error none bad = stricter_error a_natural an_optional_natural d (λ kind h. ap (unless (shape_fault d)) (same_shape natural_of d none) ∙ h) (λ step. refl) error bad
