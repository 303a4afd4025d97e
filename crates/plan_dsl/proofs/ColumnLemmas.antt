-- Columns that kernels make of fitting columns.
use Rattle.std.proofs.Common.{◌≡◌, ◌∙◌, ℕ, zero, suc, Bool, true, false, cond, List, [], ◌∷◌, length, replicate, take, drop, Some, None, IsTrue, refl, subst, arith, ap}
use Rattle.std.specs.Prelude.{ℤ, ◌+ℤ◌}
use Rattle.std.proofs.lemmas.Bool.{and_parts, and_from}
use Rattle.plan_types.specs.Types.{Ty, Untyped, same_type}
use Rattle.plan_types.specs.TypeLaws.{same_type_exact}
use Rattle.plan_types.specs.Values.{Val, NullValue, IntValue, ListValue, StructValue, fits, all_fit, items_fit}
use Rattle.plan_types.specs.ValueViews.{values_from}
use Rattle.plan_types.specs.Outcomes.{Outcome, Done, Meets}
use Rattle.plan_types.specs.Casts.{Converted, Gives, Fails, cast}
use Rattle.plan_types.specs.declared.dtype.CastOptions.{CastOptions}
use Rattle.plan_types.specs.declared.dtype.CastOptions.TheVariants.{NonStrict}
use Rattle.plan_types.proofs.ValueLemmas.{meets_then, meets_as, ConvertedFits, cast_fits, number_to_fits}
use Rattle.plan_dsl.specs.declared.operator.Operator.{Operator}
use Rattle.plan_dsl.specs.Operators.{operator_value}
use Rattle.plan_dsl.specs.Literals.{is_literal_of}
use Rattle.plan_dsl.specs.Slices.{slice_start, in_front_of, offset_of, sliced, slice_values}
use Rattle.plan_dsl.specs.Typing.{Typed}
use Rattle.plan_dsl.specs.Kernels.{cast_values, cast_column, common_length, stretched, at_each, at_length, operator_values, value_before}
use Rattle.plan_dsl.specs.Strictness.{CanBecome}
use Rattle.plan_dsl.specs.Laws.{AreOf}

-- each column is of its typing, one by one
abbrev pub AreAllOf : List Typed → List (List Val) → Type 0
AreAllOf [] [] = Unit {0}
AreAllOf (t ∷ ts) (c ∷ cs) = AreOf t c × AreAllOf ts cs
AreAllOf [] (c ∷ cs) = ⊥
AreAllOf (t ∷ ts) [] = ⊥

-- what holds of all columns of these typings, one by one, holds of the columns
abbrev pub OnColumns : List Typed → (List (List Val) → Type 0) → Type 0
OnColumns [] P = P []
OnColumns (t ∷ ts) P = (column : List Val) → AreOf t column → OnColumns ts (λ columns. P (column ∷ columns))

pub on_columns : (typed : List Typed) (P : List (List Val) → Type 0) → OnColumns typed P → (columns : List (List Val)) → AreAllOf typed columns → P columns
on_columns [] P h [] of = h
on_columns [] P h (c ∷ cs) of = absurd of
on_columns (t ∷ ts) P h [] of = absurd of
on_columns (t ∷ ts) P h (c ∷ cs) of = on_columns ts (λ columns. P (c ∷ columns)) (h c of.0) cs of.1

-- what holds of one value holds of a column that has no more
pub one_value : (P : List Val → Type 0) → ((value : Val) → P (value ∷ [])) → (values : List Val) → length values ≡ 1 → P values
one_value P h [] one = absurd (omega arith)
one_value P h (value ∷ []) one = h value
one_value P h (value ∷ second ∷ rest) one = absurd (omega arith)

-- ---- casts

-- values that fit the type and are cast fit the target
abbrev pub CastFits : Ty → Ty → CastOptions → Type 0
CastFits from target options = (value : Val) → fits value from ≡ true → ConvertedFits target (cast value from target options)

-- so do those of an operand that can become one of the target
pub become_fits : (from target : Ty) → CanBecome from target → CastFits from target NonStrict
become_fits (Untyped number) target can NullValue fit = refl
become_fits (Untyped number) target can (IntValue other) fit = number_to_fits (Untyped number) other target NonStrict
become_fits (Untyped number) target can _ fit = cc
become_fits from target can value fit = cast_fits value from target NonStrict fit (can.casts (λ number e. cc))

-- a column that is made of another: so many values, which fit
pub record AreSoMany (target : Ty) (count : ℕ) (values : List Val) : Type 0 where
  pub fitting : IsTrue (all_fit values target)
  pub as_many : length values ≡ count

pub before_fits : (target : Ty) (count : ℕ) (converted : Converted) (rest : Outcome (List Val)) → ConvertedFits target converted → Meets (AreSoMany target count) rest → Meets (AreSoMany target (suc count)) (value_before converted rest)
before_fits target count Fails rest h r = tt
before_fits target count (Gives value) rest h r =
    meets_then (AreSoMany target count) (AreSoMany target (suc count)) rest (λ values. Done (value ∷ values)) r (λ values of. record { fitting = and_from (fits value target) (all_fit values target) h of.fitting; as_many = ap suc of.as_many })

cast_values_fit : (from target : Ty) (options : CastOptions) (values : List Val) → CastFits from target options → IsTrue (all_fit values from) → Meets (AreSoMany target (length values)) (cast_values from target options values)
cast_values_fit from target options [] each h = record { fitting = refl; as_many = refl }
cast_values_fit from target options (value ∷ values) each h =
    let parts = and_parts (fits value from) (all_fit values from) h in
    before_fits target (length values) (cast value from target options) (cast_values from target options values) (each value parts.0) (cast_values_fit from target options values each parts.1)

-- a column of a type that is cast has the target's
pub column_cast : (from target : Ty) (options : CastOptions) (many : Bool) (values : List Val) → CastFits from target options → AreOf (record { type = from; many = many }) values → Meets (AreOf (record { type = target; many = many })) (cast_values from target options values)
column_cast from target options many values each of =
    meets_as (AreSoMany target (length values)) (AreOf (record { type = target; many = many })) (cast_values from target options values) (cast_values_fit from target options values each of.fitting) (λ found made. record { fitting = made.fitting; single = λ one. made.as_many ∙ of.single one })

pub cast_column_fits : (from target : Ty) (options : CastOptions) (many : Bool) (values : List Val) → CastFits from target options → AreOf (record { type = from; many = many }) values → Meets (AreOf (record { type = target; many = many })) (cast_column from target options values)
cast_column_fits from target options many values each of =
    elim (same_type from target) as (λ b. same_type from target ≡ b → Meets (AreOf (record { type = target; many = many })) (cond b (Done values) (cast_values from target options values))) [ true ↦ λ e. subst (λ t. AreOf (record { type = t; many = many }) values) (same_type_exact from target e) of | false ↦ λ e. column_cast from target options many values each of ] refl

-- ---- operators

at_each_fits : (f : Val → Val → Val) (l r type : Ty) → ((x y : Val) → IsTrue (fits x l) → IsTrue (fits y r) → IsTrue (fits (f x y) type)) → (left right : List Val) → IsTrue (all_fit left l) → IsTrue (all_fit right r) → IsTrue (all_fit (at_each f left right) type)
at_each_fits f l r type each [] right h k = refl
at_each_fits f l r type each (x ∷ left) [] h k = refl
at_each_fits f l r type each (x ∷ left) (y ∷ right) h k =
    let hs = and_parts (fits x l) (all_fit left l) h in
    let ks = and_parts (fits y r) (all_fit right r) k in
    and_from (fits (f x y) type) (all_fit (at_each f left right) type) (each x y hs.0 ks.0) (at_each_fits f l r type each left right hs.1 ks.1)

pub replicate_fits : (count : ℕ) (value : Val) (type : Ty) → IsTrue (fits value type) → IsTrue (all_fit (replicate count value) type)
replicate_fits zero value type h = refl
replicate_fits (suc count) value type h = and_from (fits value type) (all_fit (replicate count value) type) h (replicate_fits count value type h)

-- a column that is stretched still fits
pub stretched_fits : (count : ℕ) (values : List Val) (type : Ty) → IsTrue (all_fit values type) → IsTrue (all_fit (stretched count values) type)
stretched_fits count [] type h = refl
stretched_fits count (value ∷ []) type h = replicate_fits count value type (and_parts (fits value type) true h).0
stretched_fits count (first ∷ second ∷ rest) type h = h

-- two columns of one value are not stretched
single_each : (f : Val → Val → Val) (left right : List Val) (count : ℕ) → common_length (length left) (length right) ≡ Some count → length left ≡ 1 → length right ≡ 1 → length (at_each f (stretched count left) (stretched count right)) ≡ 1
single_each f [] right count c l r = omega arith
single_each f (x ∷ second ∷ left) right count c l r = omega arith
single_each f (x ∷ []) [] count c l r = omega arith
single_each f (x ∷ []) (y ∷ second ∷ right) count c l r = omega arith
single_each f (x ∷ []) (y ∷ []) count c l r =
    let one : 1 ≡ count = cc in subst (λ n. length (at_each f (replicate n x) (replicate n y)) ≡ 1) one refl

pub operator_values_fit : (operator : Operator) (l r type : Ty) (many : Bool) (left right : List Val) → ((x y : Val) → IsTrue (fits x l) → IsTrue (fits y r) → IsTrue (fits (operator_value operator l type x y) type)) → IsTrue (all_fit left l) → IsTrue (all_fit right r) → (many ≡ false → (length left ≡ 1) × (length right ≡ 1)) → Meets (AreOf (record { type = type; many = many })) (operator_values operator l type left right)
operator_values_fit operator l r type many left right each h k single =
    let f = operator_value operator l type in
    elim (common_length (length left) (length right)) as (λ o. common_length (length left) (length right) ≡ o → Meets (AreOf (record { type = type; many = many })) (at_length o (λ count. at_each f (stretched count left) (stretched count right)))) [
      | None ↦ λ e. tt
      | Some count ↦ λ e. record {
        fitting = at_each_fits f l r type each (stretched count left) (stretched count right) (stretched_fits count left l h) (stretched_fits count right r k);
        single = λ one. single_each f left right count e (single one).0 (single one).1;
      }
    ] refl

-- ---- lists

-- values that fit are those of a list that does
pub list_of_fitting : (values : List Val) (type : Ty) → IsTrue (all_fit values type) → IsTrue (items_fit (values_from values) type)
list_of_fitting [] type h = refl
list_of_fitting (value ∷ values) type h =
    let parts = and_parts (fits value type) (all_fit values type) h in
    and_from (fits value type) (items_fit (values_from values) type) parts.0 (list_of_fitting values type parts.1)

-- ---- slices

-- what is left of values that fit
pub taken_fit : (count : ℕ) (values : List Val) (type : Ty) → IsTrue (all_fit values type) → IsTrue (all_fit (take count values) type)
taken_fit zero values type h = refl
taken_fit (suc count) [] type h = refl
taken_fit (suc count) (value ∷ values) type h =
    let parts = and_parts (fits value type) (all_fit values type) h in
    and_from (fits value type) (all_fit (take count values) type) parts.0 (taken_fit count values type parts.1)

pub dropped_fit : (count : ℕ) (values : List Val) (type : Ty) → IsTrue (all_fit values type) → IsTrue (all_fit (drop count values) type)
dropped_fit zero values type h = h
dropped_fit (suc count) [] type h = refl
dropped_fit (suc count) (value ∷ values) type h = dropped_fit count values type (and_parts (fits value type) (all_fit values type) h).1

sliced_fits : (start : ℤ) (count : Val) (values : List Val) (type : Ty) → IsTrue (all_fit values type) → IsTrue (all_fit (sliced start count values) type)
sliced_fits start (IntValue count) values type h =
    dropped_fit (in_front_of start) (take (in_front_of (start +ℤ count)) values) type (taken_fit (in_front_of (start +ℤ count)) values type h)
sliced_fits start _ values type h = dropped_fit (in_front_of start) values type h

-- a slice by one offset and one length is there
pub slice_values_fit : (type : Ty) (values offsets counts : List Val) → IsTrue (all_fit values type) → length offsets ≡ 1 → length counts ≡ 1 → Meets (AreOf (record { type = type; many = true })) (slice_values values offsets counts)
slice_values_fit type values offsets counts fit start size =
    one_value (λ offsets. Meets (AreOf (record { type = type; many = true })) (slice_values values offsets counts)) (λ offset.
    one_value (λ counts. Meets (AreOf (record { type = type; many = true })) (slice_values values (offset ∷ []) counts)) (λ count.
    record { fitting = sliced_fits (slice_start (offset_of offset) (length values)) count values type fit; single = λ one. cc }) counts size) offsets start

-- ---- literals

pub literal_fits : (type : Ty) (value : Val) → is_literal_of type value ≡ true → IsTrue (fits value type)
literal_fits type NullValue h = refl
literal_fits type (ListValue items) h = cc
literal_fits type (StructValue parts) h = cc
literal_fits type _ h = h
