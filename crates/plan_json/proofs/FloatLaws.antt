-- A fault of a float is one of a number that is held as a float, and a fault of shape is none.
use Rattle.plan_json.proofs.Names.{Bool, None, Option, Some, cond, false, refl, subst, true, ◌≡◌, BadFloat, BadName, BadShape, FaultKind, Form, a_new_name, a_scan, own_fault, shape_fault, unless, is_float, Name, Data, Num, float, text_of, as_i64, as_u64, option_map_or, numeral, same_Some}

pub no_integer : (n : Num) → is_float (numeral n) ≡ true → (as_i64 n ≡ None) × (as_u64 n ≡ None)
no_integer (float x) e = (refl, refl)
no_integer _ e = cc

pub neither : (n : Num) → as_i64 n ≡ None → as_u64 n ≡ None → is_float (numeral n) ≡ true
neither (float x) i u = refl
neither _ i u = cc

-- ---- what a value's own fault is

-- a fault of a float is one of a float, and one of shape is none
abbrev Tells : Data → FaultKind → Type 0
Tells d BadFloat = is_float d ≡ true
Tells d BadShape = is_float d ≡ false
Tells d BadName = Unit {0}

by_shape : (d : Data) → Tells d (shape_fault d)
by_shape d = elim (is_float d) as (λ b. is_float d ≡ b → Tells d (cond b BadFloat BadShape)) [ true ↦ λ is. is | false ↦ λ is. is ] refl

of_test : (d : Data) (b : Bool) (fault kind : FaultKind) → Tells d fault → unless fault b ≡ Some kind → Tells d kind
of_test d true fault kind told e = cc
of_test d false fault kind told e = subst (Tells d) (same_Some fault kind e) told

of_name : (d : Data) (test : Name → Bool) (o : Option Name) (kind : FaultKind) → option_map_or (λ name. unless BadName (test name)) o (Some (shape_fault d)) ≡ Some kind → Tells d kind
of_name d test None kind e = of_test d false (shape_fault d) kind (by_shape d) e
of_name d test (Some name) kind e = of_test d (test name) BadName kind tt e

pub own_tells : (form : Form) (d : Data) (kind : FaultKind) → own_fault form d ≡ Some kind → Tells d kind
own_tells (a_new_name before) d kind e = of_name d _ (text_of d) kind e
own_tells (a_scan tables) d kind e = of_name d _ (text_of d) kind e
own_tells _ d kind e = of_test d _ (shape_fault d) kind (by_shape d) e
