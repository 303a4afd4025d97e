-- Orders of values and of keys, and items that are put in order.
use Rattle.std.proofs.Common.{◌≡◌, ◌∙◌, ℕ, zero, suc, replicate, pos, sym, Bool, true, false, cond, List, [], ◌∷◌, length, map, refl, ap, subst}
use Rattle.std.specs.Prelude.{not, ◌&&◌, ◌||◌, ◌==◌, int_lt, nat_lt, encode_utf8_all, IsPermutation, zip}
use Rattle.std.specs.List.{AllByRecursion, filter, list_all}
use Rattle.std.specs.List.Sorted.{ties}
use Rattle.std.specs.Cmp.{IsStrictWeakOrder, bool_cmp_total}
use Rattle.std.specs.Cmp.Lexicographic.{slice_cmp}
use Rattle.std.specs.Ordering.{is_lt, bool_cmp, int_cmp, nat_cmp, ordering_then}
use Rattle.std.specs.declared.cmp.Ordering.{Ordering}
use Rattle.std.specs.declared.cmp.Ordering.TheVariants.{Less, Equal, Greater}
use Rattle.std.proofs.Math.Bool.{and-false}
use Rattle.std.proofs.lemmas.Bool.{and_from, and_parts, not-true}
use Rattle.std.proofs.lemmas.Cmp.{int_cmp_total, nat_list_cmp_total}
use Rattle.std.proofs.lemmas.List.MinMax.{ranks_by}
use Rattle.plan_types.specs.Types.{Ty, Truth, TextType, ListType, StructType}
use Rattle.plan_types.specs.Values.{Val, NullValue, TruthValue, IntValue, TextValue, ListValue, StructValue, all_fit, fits}
use Rattle.plan_types.specs.Frames.{Row}
use Rattle.plan_types.specs.Outcomes.{Outcome, Done, Fault, Stuck, Meets, then_do}
use Rattle.plan_types.proofs.ValueLemmas.{meets_then}
use Rattle.plan_dsl.specs.declared.sort_options.SortOptions.{SortOptions}
use Rattle.plan_dsl.specs.Operators.{is_before, is_less}
use Rattle.plan_dsl.specs.Kernels.{for_rows, in_front, key_rows, sort_by_values, stretched}
use Rattle.plan_dsl.specs.Sorting.{comes_before, inserted, key_options, keys_before, sort_values, sorted, sorted_rows}
use Rattle.plan_dsl.specs.SortLaws.{IsOrderOf, IsInOrder, IsSortOf, IsSortByKeys, columns_fit, keys_fit}
use Rattle.plan_dsl.proofs.PickLemmas.{no_number}
use Rattle.plan_dsl.proofs.SortLemmas.{each_fits, inserted_same, key_rows_many, permuted_each, sorted_same, sort_by_values_same}
use Rattle.plan_dsl.proofs.ColumnLemmas.{stretched_fits}

-- ---- of two values of one kind

order_as : {A : Type 0} (before other : A → A → Bool) → ((x y : A) → before x y ≡ other x y) → IsStrictWeakOrder other → IsStrictWeakOrder before
order_as before other same order = record {
  one_way = λ x y h. same y x ∙ order.one_way x y (sym (same x y) ∙ h);
  chain = λ x y z h k. same x z ∙ order.chain x y z (sym (same x y) ∙ h) (sym (same y z) ∙ k);
}

truth_less : (x y : Bool) → (not x && y) ≡ is_lt (bool_cmp x y)
truth_less true true = refl
truth_less true false = refl
truth_less false true = refl
truth_less false false = refl

truths_in_order : IsStrictWeakOrder (λ (x y : Bool). not x && y)
truths_in_order = order_as _ _ truth_less (ranks_by bool_cmp_total (λ x. x))

number_less : (less more : Bool) → less ≡ is_lt (cond less Less (cond more Greater Equal))
number_less true more = refl
number_less false true = refl
number_less false false = refl

numbers_in_order : IsStrictWeakOrder int_lt
numbers_in_order = order_as int_lt (λ x y. is_lt (int_cmp x y)) (λ x y. number_less (int_lt x y) (int_lt y x)) (ranks_by int_cmp_total (λ x. x))

first_less : (less same later : Bool) (rest : Ordering) → later ≡ is_lt rest → (less || (same && later)) ≡ is_lt (ordering_then (cond less Less (cond same Equal Greater)) rest)
first_less true same later rest h = refl
first_less false true later rest h = h
first_less false false later rest h = refl

bytes_less : (xs ys : List ℕ) → is_before xs ys ≡ is_lt (slice_cmp nat_cmp xs ys)
bytes_less [] [] = refl
bytes_less [] (y ∷ ys) = refl
bytes_less (x ∷ xs) [] = refl
bytes_less (x ∷ xs) (y ∷ ys) = first_less (nat_lt x y) (x == y) (is_before xs ys) (slice_cmp nat_cmp xs ys) (bytes_less xs ys)

texts_in_order : IsStrictWeakOrder (λ (x y : List ℕ). is_before (encode_utf8_all x) (encode_utf8_all y))
texts_in_order = order_as _ (λ x y. is_lt (slice_cmp nat_cmp (encode_utf8_all x) (encode_utf8_all y))) (λ x y. bytes_less (encode_utf8_all x) (encode_utf8_all y)) (ranks_by nat_list_cmp_total encode_utf8_all)

less_one_way : (x y : Val) → is_less x y ≡ true → is_less y x ≡ false
less_one_way (TruthValue x) (TruthValue y) h = truths_in_order.one_way x y h
less_one_way (IntValue x) (IntValue y) h = numbers_in_order.one_way x y h
less_one_way (TextValue x) (TextValue y) h = texts_in_order.one_way x y h
less_one_way _ _ h = cc

-- ---- of values of one type

-- the kind of a value
abbrev kind : Val → ℕ
kind NullValue = 0
kind (TruthValue truth) = 1
kind (IntValue number) = 2
kind (TextValue text) = 3
kind (ListValue items) = 4
kind (StructValue parts) = 5

abbrev is_nothing : Val → Bool
is_nothing NullValue = true
is_nothing value = false

less_chain : (x y z : Val) → kind x ≡ kind y → kind y ≡ kind z → is_less x y ≡ false → is_less y z ≡ false → is_less x z ≡ false
less_chain (TruthValue x) (TruthValue y) (TruthValue z) p q h k = truths_in_order.chain x y z h k
less_chain (IntValue x) (IntValue y) (IntValue z) p q h k = numbers_in_order.chain x y z h k
less_chain (TextValue x) (TextValue y) (TextValue z) p q h k = texts_in_order.chain x y z h k
less_chain (TruthValue x) _ (TruthValue z) p q h k = cc
less_chain (IntValue x) _ (IntValue z) p q h k = cc
less_chain (TextValue x) _ (TextValue z) p q h k = cc
less_chain _ _ _ p q h k = refl

-- values of a type are null or of one kind
abbrev kind_of : Ty → ℕ
kind_of Truth = 1
kind_of TextType = 3
kind_of (ListType item) = 4
kind_of (StructType fields) = 5
kind_of type = 2

fit_kind : (value : Val) (type : Ty) → fits value type ≡ true → is_nothing value ≡ false → kind value ≡ kind_of type
fit_kind NullValue type h n = cc
fit_kind (TruthValue truth) Truth h n = refl
fit_kind (TruthValue truth) _ h n = cc
fit_kind (IntValue number) Truth h n = absurd (no_number (int_lt number (pos 0)) h)
fit_kind (IntValue number) TextType h n = absurd (no_number (int_lt number (pos 0)) h)
fit_kind (IntValue number) (ListType item) h n = absurd (no_number (int_lt number (pos 0)) h)
fit_kind (IntValue number) (StructType fields) h n = absurd (no_number (int_lt number (pos 0)) h)
fit_kind (IntValue number) _ h n = refl
fit_kind (TextValue text) TextType h n = refl
fit_kind (TextValue text) _ h n = cc
fit_kind (ListValue items) (ListType item) h n = refl
fit_kind (ListValue items) _ h n = cc
fit_kind (StructValue parts) (StructType fields) h n = refl
fit_kind (StructValue parts) _ h n = cc

-- what comes before what, of values that are null or in an order
abbrev apart : Bool → Bool → Bool → Bool → Bool
apart last true true less = false
apart last true false less = not last
apart last false true less = last
apart last false false less = less

abbrev directed : Bool → Val → Val → Bool
directed descending x y = cond descending (is_less y x) (is_less x y)

apart_is : (options : SortOptions) (x y : Val) → comes_before options x y ≡ apart options.nulls_last (is_nothing x) (is_nothing y) (directed options.descending x y)
apart_is options NullValue NullValue = refl
apart_is options NullValue _ = refl
apart_is options _ NullValue = refl
apart_is options _ _ = refl

apart_one_way : (last a b less back : Bool) → (less ≡ true → back ≡ false) → apart last a b less ≡ true → apart last b a back ≡ false
apart_one_way last true true less back o h = refl
apart_one_way true true false less back o h = cc
apart_one_way false true false less back o h = refl
apart_one_way true false true less back o h = refl
apart_one_way false false true less back o h = cc
apart_one_way last false false less back o h = o h

apart_chain : (last a b c first second both : Bool) → (a ≡ false → b ≡ false → c ≡ false → first ≡ false → second ≡ false → both ≡ false) → apart last a b first ≡ false → apart last b c second ≡ false → apart last a c both ≡ false
apart_chain last true b true first second both o h k = refl
apart_chain last true true false first second both o h k = k
apart_chain last true false false first second both o h k = h
apart_chain last false true true first second both o h k = h
apart_chain last false false true first second both o h k = k
apart_chain true false true false first second both o h k = cc
apart_chain false false true false first second both o h k = cc
apart_chain last false false false first second both o h k = o refl refl refl h k

directed_one_way : (descending : Bool) (x y : Val) → directed descending x y ≡ true → directed descending y x ≡ false
directed_one_way true x y h = less_one_way y x h
directed_one_way false x y h = less_one_way x y h

directed_chain : (descending : Bool) (x y z : Val) → kind x ≡ kind y → kind y ≡ kind z → directed descending x y ≡ false → directed descending y z ≡ false → directed descending x z ≡ false
directed_chain true x y z p q h k = less_chain z y x (sym q) (sym p) k h
directed_chain false x y z p q h k = less_chain x y z p q h k

pub values_in_order : (options : SortOptions) (type : Ty) → IsOrderOf (λ value. fits value type) (comes_before options)
values_in_order options type = record {
  one_way = λ x y fx fy h.
      apart_is options y x ∙ apart_one_way options.nulls_last (is_nothing x) (is_nothing y) (directed options.descending x y) (directed options.descending y x) (directed_one_way options.descending x y) (sym (apart_is options x y) ∙ h);
  chain = λ x y z fx fy fz h k.
      apart_is options x z
      ∙ apart_chain options.nulls_last (is_nothing x) (is_nothing y) (is_nothing z) (directed options.descending x y) (directed options.descending y z) (directed options.descending x z)
      (λ nx ny nz. let p = fit_kind x type fx nx in let q = fit_kind y type fy ny in let r = fit_kind z type fz nz in directed_chain options.descending x y z (p ∙ sym q) (q ∙ sym r))
      (sym (apart_is options x y) ∙ h) (sym (apart_is options y z) ∙ k);
}

-- ---- of keys

first_before : (less back later : Bool) → (less || (not back && later)) ≡ false → (less ≡ false) × (back ≡ false → later ≡ false)
first_before true back later h = cc
first_before false true later h = (refl, λ n. cc)
first_before false false later h = (refl, λ n. h)

neither_before : (less back later : Bool) → less ≡ false → (back ≡ false → later ≡ false) → (less || (not back && later)) ≡ false
neither_before true back later h k = cc
neither_before false true later h k = refl
neither_before false false later h k = k refl

before_parts : (less back later : Bool) → (less || (not back && later)) ≡ true → less ≡ false → (back ≡ false) × (later ≡ true)
before_parts true back later h n = cc
before_parts false true later h n = cc
before_parts false false later h n = (refl, h)

keys_one_way : (options : List SortOptions) (types : List Ty) (xs ys : List Val) → keys_fit types xs ≡ true → keys_fit types ys ≡ true → keys_before options xs ys ≡ true → keys_before options ys xs ≡ false
keys_one_way [] types xs ys fx fy h = refl
keys_one_way (option ∷ options) [] [] ys fx fy h = cc
keys_one_way (option ∷ options) [] (x ∷ xs) ys fx fy h = cc
keys_one_way (option ∷ options) (type ∷ types) [] ys fx fy h = cc
keys_one_way (option ∷ options) (type ∷ types) (x ∷ xs) [] fx fy h = cc
keys_one_way (option ∷ options) (type ∷ types) (x ∷ xs) (y ∷ ys) fx fy h =
    let hx = and_parts (fits x type) (keys_fit types xs) fx in
    let hy = and_parts (fits y type) (keys_fit types ys) fy in
    let order = values_in_order option type in
    elim (comes_before option x y) as (λ b. comes_before option x y ≡ b → (comes_before option y x || (not (comes_before option x y) && keys_before options ys xs)) ≡ false) [
      | true ↦ λ e. neither_before (comes_before option y x) (comes_before option x y) (keys_before options ys xs) (order.one_way x y hx.0 hy.0 e) (λ n. cc)
      | false ↦ λ e.
          let parts = before_parts (comes_before option x y) (comes_before option y x) (keys_before options xs ys) h e in
          neither_before (comes_before option y x) (comes_before option x y) (keys_before options ys xs) parts.0 (λ n. keys_one_way options types xs ys hx.1 hy.1 parts.1)
    ] refl

keys_chain : (options : List SortOptions) (types : List Ty) (xs ys zs : List Val) → keys_fit types xs ≡ true → keys_fit types ys ≡ true → keys_fit types zs ≡ true → keys_before options xs ys ≡ false → keys_before options ys zs ≡ false → keys_before options xs zs ≡ false
keys_chain [] types xs ys zs fx fy fz h k = refl
keys_chain (option ∷ options) types [] ys zs fx fy fz h k = refl
keys_chain (option ∷ options) types (x ∷ xs) ys [] fx fy fz h k = refl
keys_chain (option ∷ options) [] (x ∷ xs) ys (z ∷ zs) fx fy fz h k = cc
keys_chain (option ∷ options) (type ∷ types) (x ∷ xs) [] (z ∷ zs) fx fy fz h k = cc
keys_chain (option ∷ options) (type ∷ types) (x ∷ xs) (y ∷ ys) (z ∷ zs) fx fy fz h k =
    let hx = and_parts (fits x type) (keys_fit types xs) fx in
    let hy = and_parts (fits y type) (keys_fit types ys) fy in
    let hz = and_parts (fits z type) (keys_fit types zs) fz in
    let order = values_in_order option type in
    let first = first_before (comes_before option x y) (comes_before option y x) (keys_before options xs ys) h in
    let second = first_before (comes_before option y z) (comes_before option z y) (keys_before options ys zs) k in
    neither_before (comes_before option x z) (comes_before option z x) (keys_before options xs zs) (order.chain x y z hx.0 hy.0 hz.0 first.0 second.0) (λ n.
    keys_chain options types xs ys zs hx.1 hy.1 hz.1 (first.1 (order.chain y z x hy.0 hz.0 hx.0 second.0 n)) (second.1 (order.chain z x y hz.0 hx.0 hy.0 n first.0)))

pub keys_in_order : (options : List SortOptions) (types : List Ty) → IsOrderOf (keys_fit types) (keys_before options)
keys_in_order options types = record { one_way = keys_one_way options types; chain = keys_chain options types }

-- ---- items that are put in order

module _ {A : Type 0} (before : A → A → Bool) where
  module _ (class : A → Bool) (order : IsOrderOf class before) where
    abbrev AllOf : List A → Type 0
    AllOf items = AllByRecursion (λ item. class item ≡ true) items

    sorted_all : (items : List A) → AllOf items → AllOf (sorted before items)
    sorted_all items of = permuted_each (λ item. class item ≡ true) items (sorted before items) (sorted_same before items) of

    -- what comes before no first item comes before none that follows in order
    none_later : (item first : A) (rest : List A) → class item ≡ true → class first ≡ true → AllOf rest → before first item ≡ false → AllByRecursion (λ other. before other first ≡ false) rest → AllByRecursion (λ other. before other item ≡ false) rest
    none_later item first [] hi hf of h k = tt
    none_later item first (next ∷ rest) hi hf of h k = (order.chain next first item of.0 hf hi k.0 h, none_later item first rest hi hf of.1 h k.1)

    inserted_in_order : (item : A) (items : List A) → class item ≡ true → AllOf items → IsInOrder before items → IsInOrder before (inserted before item items)
    inserted_in_order item [] hi of h = (tt, tt)
    inserted_in_order item (first ∷ rest) hi of h =
        elim (before first item) as (λ b. before first item ≡ b → IsInOrder before (cond b (first ∷ inserted before item rest) (item ∷ first ∷ rest))) [
          | true ↦ λ e. (permuted_each (λ other. before other first ≡ false) (item ∷ rest) (inserted before item rest) (inserted_same before item rest) (order.one_way first item of.0 hi e, h.0), inserted_in_order item rest hi of.1 h.1)
          | false ↦ λ e. ((e, none_later item first rest hi of.0 of.1 e h.0), h)
        ] refl

    sorted_in_order : (items : List A) → AllOf items → IsInOrder before (sorted before items)
    sorted_in_order [] of = tt
    sorted_in_order (item ∷ items) of = inserted_in_order item (sorted before items) of.0 (sorted_all items of.1) (sorted_in_order items of.1)

    -- of two items of which one comes before the other, not both tie with a third
    not_both : (x first item : A) → class x ≡ true → class first ≡ true → class item ≡ true → before first item ≡ true → ties before x item ≡ true → ties before x first ≡ false
    not_both x first item hx hf hi h tied =
        let parts = and_parts (not (before x item)) (not (before item x)) tied in
        elim (before first x) as (λ b. before first x ≡ b → (not (before x first) && not (before first x)) ≡ false) [
          | true ↦ λ e. ap (λ b. not (before x first) && not b) e ∙ and-false (not (before x first))
          | false ↦ λ e. absurd (both h (order.chain first x item hf hx hi e (not-true (before x item) parts.0)))
        ] refl
      where
        both : {b : Bool} → b ≡ true → b ≡ false → ⊥
        both h k = cc

    kept_front : (tied first : Bool) (item other : A) (rest : List A) → (tied ≡ true → first ≡ false) → cond first (other ∷ cond tied (item ∷ rest) rest) (cond tied (item ∷ rest) rest) ≡ cond tied (item ∷ cond first (other ∷ rest) rest) (cond first (other ∷ rest) rest)
    kept_front true true item other rest h = let e : true ≡ false = h refl in cc
    kept_front true false item other rest h = refl
    kept_front false first item other rest h = refl

    inserted_stable : (x item : A) (items : List A) → class x ≡ true → class item ≡ true → AllOf items → filter (ties before x) (inserted before item items) ≡ filter (ties before x) (item ∷ items)
    inserted_stable x item [] hx hi of = refl
    inserted_stable x item (first ∷ rest) hx hi of =
        let test = ties before x in
        elim (before first item) as (λ b. before first item ≡ b → filter test (cond b (first ∷ inserted before item rest) (item ∷ first ∷ rest)) ≡ filter test (item ∷ first ∷ rest)) [
          | true ↦ λ e. ap (λ l. cond (test first) (first ∷ l) l) (inserted_stable x item rest hx hi of.1) ∙ kept_front (test item) (test first) item first (filter test rest) (not_both x first item hx of.0 hi e)
          | false ↦ λ e. refl
        ] refl

    sorted_stable : (x : A) (items : List A) → class x ≡ true → AllOf items → filter (ties before x) (sorted before items) ≡ filter (ties before x) items
    sorted_stable x [] hx of = refl
    sorted_stable x (item ∷ items) hx of =
        inserted_stable x item (sorted before items) hx of.0 (sorted_all items of.1) ∙ ap (λ l. cond (ties before x item) (item ∷ l) l) (sorted_stable x items hx of.1)

    pub is_sorted : (items : List A) → AllOf items → IsSortOf class before items (sorted before items)
    is_sorted items of = record { same = sorted_same before items; in_order = sorted_in_order items of; stable = λ x hx. sorted_stable x items hx of }

-- ---- columns

pub values_sorted : (options : SortOptions) (type : Ty) (values : List Val) → all_fit values type ≡ true → IsSortOf (λ value. fits value type) (comes_before options) values (sort_values options values)
values_sorted options type values h = is_sorted (comes_before options) (λ value. fits value type) (values_in_order options type) values (each_fits values type h)

rows_fit : {A : Type 0} (types : List Ty) (items : List A) (keys : List Row) → list_all (keys_fit types) keys ≡ true → AllByRecursion (λ (row : A × Row). keys_fit types row.1 ≡ true) (zip items keys)
rows_fit types [] keys h = tt
rows_fit types (item ∷ items) [] h = tt
rows_fit types (item ∷ items) (row ∷ rows) h = let parts = and_parts (keys_fit types row) (list_all (keys_fit types) rows) h in (parts.0, rows_fit types items rows parts.1)

-- items of any type, each beside its keys
pub beside_keys_sorted : {A : Type 0} (options : List SortOptions) (types : List Ty) (keys : List Row) (items : List A) → list_all (keys_fit types) keys ≡ true
    → IsSortOf (λ (row : A × Row). keys_fit types row.1) (λ left right. keys_before options left.1 right.1) (zip items keys) (sorted (λ left right. keys_before options left.1 right.1) (zip items keys))
beside_keys_sorted {A = A} options types keys items h =
    let order = keys_in_order options types in
    is_sorted (λ (left right : A × Row). keys_before options left.1 right.1) (λ row. keys_fit types row.1) (record { one_way = λ x y. order.one_way x.1 y.1; chain = λ x y z. order.chain x.1 y.1 z.1 }) (zip items keys) (rows_fit types items keys h)

pub rows_sorted : (options : List SortOptions) (types : List Ty) (keys : List (List Val)) (values : List Val) → list_all (keys_fit types) keys ≡ true
    → IsSortOf (λ row. keys_fit types row.1) (λ left right. keys_before options left.1 right.1) (zip values keys) (sorted_rows options keys values)
rows_sorted options types keys values h = beside_keys_sorted options types keys values h

-- what holds of an outcome holds of what is found
of_found : {A : Type 0} (P : A → Type 0) (outcome : Outcome A) (found : A) → Meets P outcome → outcome ≡ Done found → P found
of_found P outcome found h is = subst (Meets P) is h

pub by_keys_same : (descending nulls_last : List Bool) (values : List Val) (keys : List (List Val)) (found : List Val) → sort_by_values descending nulls_last values keys ≡ Done found → IsPermutation values found
by_keys_same descending nulls_last values keys found is = of_found (IsPermutation values) (sort_by_values descending nulls_last values keys) found (sort_by_values_same descending nulls_last values keys) is

-- ---- columns of keys

no_keys_fit : (count : ℕ) → list_all (keys_fit []) (replicate count []) ≡ true
no_keys_fit zero = refl
no_keys_fit (suc count) = no_keys_fit count

keys_in_front : (type : Ty) (types : List Ty) (column : List Val) (rows : List Row) → all_fit column type ≡ true → list_all (keys_fit types) rows ≡ true → list_all (keys_fit (type ∷ types)) (in_front column rows) ≡ true
keys_in_front type types [] rows h k = refl
keys_in_front type types (value ∷ values) [] h k = refl
keys_in_front type types (value ∷ values) (row ∷ rows) h k =
    let hs = and_parts (fits value type) (all_fit values type) h in
    let ks = and_parts (keys_fit types row) (list_all (keys_fit types) rows) k in
    and_from (fits value type && keys_fit types row) _ (and_from (fits value type) (keys_fit types row) hs.0 ks.0) (keys_in_front type types values rows hs.1 ks.1)

column_fits : (count : ℕ) (type : Ty) (key : List Val) → all_fit key type ≡ true → Meets (λ column. all_fit column type ≡ true) (for_rows count key)
column_fits count type key h =
    elim (length key == count || length key == 1) as (λ b. Meets (λ column. all_fit column type ≡ true) (cond b (Done (stretched count key)) Fault)) [
      | true ↦ stretched_fits count key type h
      | false ↦ tt
    ]

key_rows_fit : (count : ℕ) (types : List Ty) (keys : List (List Val)) → columns_fit types keys ≡ true → Meets (λ rows. list_all (keys_fit types) rows ≡ true) (key_rows count keys)
key_rows_fit count [] [] h = no_keys_fit count
key_rows_fit count [] (key ∷ keys) h = cc
key_rows_fit count (type ∷ types) [] h = cc
key_rows_fit count (type ∷ types) (key ∷ keys) h =
    let parts = and_parts (all_fit key type) (columns_fit types keys) h in
    let Fit : List Row → Type 0 = λ rows. list_all (keys_fit (type ∷ types)) rows ≡ true in
    meets_then (λ column. all_fit column type ≡ true) Fit (for_rows count key) (λ column. then_do (key_rows count keys) (λ rows. Done (in_front column rows))) (column_fits count type key parts.0) (λ column fit.
    meets_then (λ rows. list_all (keys_fit types) rows ≡ true) Fit (key_rows count keys) (λ rows. Done (in_front column rows)) (key_rows_fit count types keys parts.1) (λ rows each. keys_in_front type types column rows fit each))

pub done_parts : {A B : Type 0} (first : Outcome A) (next : A → Outcome B) (found : B) → then_do first next ≡ Done found → (x : A) × (first ≡ Done x) × (next x ≡ Done found)
done_parts (Done x) next found h = (x, refl, h)
done_parts Fault next found h = cc
done_parts Stuck next found h = cc

pub sorts_by_keys : (descending nulls_last : List Bool) (types : List Ty) (values : List Val) (keys : List (List Val)) (found : List Val) → columns_fit types keys ≡ true → sort_by_values descending nulls_last values keys ≡ Done found
    → IsSortByKeys (key_options (length keys) descending nulls_last) types values keys found
sorts_by_keys descending nulls_last types values keys found fit is =
    let options = key_options (length keys) descending nulls_last in
    let parts = done_parts (key_rows (length values) keys) (λ rows. Done (map (λ row. row.0) (sorted_rows options rows values))) found is in
    record {
      rows = parts.0;
      beside = parts.1;
      as_many = of_found (λ (rows : List Row). length rows ≡ length values) (key_rows (length values) keys) parts.0 (key_rows_many (length values) keys) parts.1;
      sorted = rows_sorted options types parts.0 values (of_found (λ rows. list_all (keys_fit types) rows ≡ true) (key_rows (length values) keys) parts.0 (key_rows_fit (length values) types keys fit) parts.1);
      found_is = cc;
    }
