-- Values compared: of other kinds, and those of lists and structs one by one.
use Rattle.std.proofs.Common.{◌≡◌, ◌≢◌, ℕ, ℤ, suc, Bool, false, ◌&&◌, List as Many, [], ◌∷◌, length, refl, sym, ap, ◌∙◌}
use Rattle.std.proofs.Math.Bool.{and-false}
use Rattle.plan_types.specs.Values.{NullValue, TruthValue, IntValue, TextValue, ListValue, StructValue, same_value, same_values}
use Rattle.plan_types.specs.ValueViews.{val_of, values_in}
use Rattle.plan_types.specs.declared.value.Value.{Value, Null, Boolean, Int, Text, List, Struct}
use Rattle.plan_types.specs.declared.value.Parts.{Parts}
use Rattle.plan_types.proofs.PartLemmas.{list_of, struct_of}

-- a value that is of no such kind isn't the same
pub null_apart : (b : Value) → b ≢ Null → false ≡ same_value NullValue (val_of b)
null_apart Null not = absurd (not refl)
null_apart _ not = refl

pub truth_apart : (x : Bool) (b : Value) → ((y : Bool) → b ≢ Boolean y) → false ≡ same_value (TruthValue x) (val_of b)
truth_apart x (Boolean y) not = absurd (not y refl)
truth_apart x _ not = refl

pub number_apart : (x : ℤ) (b : Value) → ((y : ℤ) → b ≢ Int y) → false ≡ same_value (IntValue x) (val_of b)
number_apart x (Int y) not = absurd (not y refl)
number_apart x _ not = refl

pub text_apart : (x : Many ℕ) (b : Value) → ((y : Many ℕ) → b ≢ Text y) → false ≡ same_value (TextValue x) (val_of b)
text_apart x (Text y) not = absurd (not y refl)
text_apart x _ not = refl

-- lists and structs are the same where their values are
pub lists_compared : (a b : Value) (r s : Parts) (xs ys : Many Value) → a ≡ List r → b ≡ List s → xs ≡ r.items.items → ys ≡ s.items.items → same_values (values_in xs) (values_in ys) ≡ same_value (val_of a) (val_of b)
lists_compared a b r s xs ys is other left right =
    sym (ap (λ v. same_value v (val_of b)) (list_of a r xs is left) ∙ ap (same_value (ListValue (values_in xs))) (list_of b s ys other right))

pub structs_compared : (a b : Value) (r s : Parts) (xs ys : Many Value) → a ≡ Struct r → b ≡ Struct s → xs ≡ r.items.items → ys ≡ s.items.items → same_values (values_in xs) (values_in ys) ≡ same_value (val_of a) (val_of b)
structs_compared a b r s xs ys is other left right =
    sym (ap (λ v. same_value v (val_of b)) (struct_of a r xs is left) ∙ ap (same_value (StructValue (values_in xs))) (struct_of b s ys other right))

-- lists of other lengths aren't the same
pub values_apart : (vs ws : Many Value) → length vs ≢ length ws → false ≡ same_values (values_in vs) (values_in ws)
values_apart [] [] n = absurd (n refl)
values_apart [] (w ∷ ws) n = refl
values_apart (v ∷ vs) [] n = refl
values_apart (v ∷ vs) (w ∷ ws) n =
    sym (and-false (same_value (val_of v) (val_of w))) ∙ ap (λ b. same_value (val_of v) (val_of w) && b) (values_apart vs ws (λ e. n (ap suc e)))
