-- The rules and values of functions that have no signature: whether a value is among others, and a field of a struct.
use Rattle.std.proofs.Common.{◌≡◌, ◌∙◌, Bool, true, false, ◌||◌, cond, nat_lt, suc, List, [], ◌∷◌, length, map, Option, Some, None, Result, Ok, Err, IsTrue, refl, sym, ap, subst}
use Rattle.std.proofs.lemmas.Bool.{and_parts, and_from, or_parts}
use Rattle.plan_types.specs.Types.{Ty, NullType, Truth, Integer, DatetimeType, DurationType, ListType, StructType, Fields, no_field, with_field, are_known, is_integer, is_known, same_type, unit_rank}
use Rattle.plan_types.specs.TypeLaws.{same_type_exact, same_type_own}
use Rattle.plan_types.specs.Schemas.{Name, same_name}
use Rattle.plan_types.specs.Supertypes.{supertype}
use Rattle.plan_types.specs.CommonTypes.{found_common}
use Rattle.plan_types.specs.Values.{Val, Vals, no_value, with_value, NullValue, TruthValue, IntValue, TextValue, ListValue, StructValue, fits, all_fit, parts_fit}
use Rattle.plan_types.specs.Casts.{can_cast}
use Rattle.plan_types.specs.Frames.{Row}
use Rattle.plan_types.specs.Outcomes.{Meets}
use Rattle.plan_types.specs.declared.dtype.TimeUnit.{TimeUnit}
use Rattle.plan_types.specs.declared.error.ErrorKind.{ErrorKind}
use Rattle.plan_types.specs.declared.error.ErrorKind.TheVariants.{InvalidOperation}
use Rattle.plan_types.proofs.CastLemmas.{cast_own as own_cast, supertype_casts}
use Rattle.plan_types.proofs.CommonLemmas.{supertype_known}
use Rattle.plan_types.proofs.SupertypeLemmas.{some_same}
use Rattle.plan_types.proofs.ValueLemmas.{ConvertedFits}
use Rattle.plan_dsl.specs.FunctionTypes.{apart_type, field_type, finer_type, in_column, in_lists, is_in_types, member_type}
use Rattle.plan_dsl.specs.FunctionValues.{field_value, is_among_values, is_in_values, list_has, part_named}
use Rattle.plan_dsl.specs.Laws.{AreOf}
use Rattle.plan_dsl.specs.OperatorTypes.{Taken, pair_to}
use Rattle.plan_dsl.specs.Rows.{by_row}
use Rattle.plan_dsl.specs.Typing.{Typed}
use Rattle.plan_dsl.proofs.RowLemmas.{RowIs, by_row_fits}
use Rattle.plan_dsl.proofs.TakingLemmas.{integer_common}
use Rattle.plan_dsl.proofs.TypingLemmas.{ok_same}

abbrev yes : Ty → Result Ty ErrorKind
yes type = Ok type

ok_type : (a b : Ty) → yes a ≡ Ok b → a ≡ b
ok_type a b e = cc

-- ---- a value among others: the type in which it is looked for

-- both are cast to it
record Looks (a x t : Ty) : Type 0 where
  pub value : can_cast a t ≡ true
  pub items : can_cast x t ≡ true
  pub known : is_known t ≡ true

looks_as : (a x t u : Ty) → yes t ≡ Ok u → Looks a x t → Looks a x u
looks_as a x t u e = subst (Looks a x) (ok_type t u e)

looks_common : (a x t : Ty) → is_known a ≡ true → is_known x ≡ true → (found : Option Ty) → supertype a x ≡ found → found_common found ≡ Ok t → Looks a x t
looks_common a x t k l None e h = cc
looks_common a x t k l (Some c) e h =
    let casts = supertype_casts a x c k l e in
    looks_as a x c t h (record { value = casts.0; items = casts.1; known = supertype_known a x c k l e })

looks_finer : (type x t : Ty) (unit other : TimeUnit) → Looks type x type → finer_type type unit other ≡ Ok t → Looks type x t
looks_finer type x t unit other l h =
    elim (nat_lt (unit_rank unit) (unit_rank other)) as (λ b. cond b (Ok type) (Err InvalidOperation) ≡ Ok t → Looks type x t) [ true ↦ λ h. looks_as type x type t h l | false ↦ λ h. cc ] h

looks_apart : (a x t : Ty) → is_known a ≡ true → is_known x ≡ true → apart_type a x ≡ Ok t → Looks a x t
looks_apart NullType x t k l h = looks_as NullType x x t h (record { value = l; items = own_cast x l; known = l })
looks_apart (Integer signed bits) (Integer other width) t k l h = looks_common (Integer signed bits) (Integer other width) t k l (supertype (Integer signed bits) (Integer other width)) refl h
looks_apart (DatetimeType unit) (DatetimeType other) t k l h = looks_finer (DatetimeType unit) (DatetimeType other) t unit other (record { value = refl; items = refl; known = refl }) h
looks_apart (DurationType unit) (DurationType other) t k l h = looks_finer (DurationType unit) (DurationType other) t unit other (record { value = refl; items = refl; known = refl }) h
looks_apart a NullType t k l h = looks_as a NullType a t h (record { value = own_cast a k; items = k; known = k })
looks_apart _ _ t k l h = cc

looks : (a x t : Ty) → is_known a ≡ true → is_known x ≡ true → member_type a x ≡ Ok t → Looks a x t
looks a x t k l h =
    elim (same_type a x) as (λ b. same_type a x ≡ b → cond b (Ok a) (apart_type a x) ≡ Ok t → Looks a x t) [
      | true ↦ λ e h. looks_as a x a t h (record { value = own_cast a k; items = subst (λ y. can_cast y a ≡ true) (same_type_exact a x e) (own_cast a k); known = k })
      | false ↦ λ e h. looks_apart a x t k l h
    ] refl h

member_itself : (t : Ty) → member_type t t ≡ Ok t
member_itself t = ap (λ b. cond b (Ok t) (apart_type t t)) (same_type_own t)

-- a column that is looked in whole is of no list, and of more than nulls
abbrev is_whole : Ty → Bool
is_whole (ListType item) = false
is_whole NullType = false
is_whole type = true

whole_stays : (t : Ty) → is_whole t ≡ true → is_in_types t t ≡ in_column (member_type t t)
whole_stays (ListType item) w = cc
whole_stays NullType w = cc
whole_stays _ w = refl

integer_whole : (t : Ty) → is_integer t ≡ true → is_whole t ≡ true
integer_whole (Integer signed bits) i = refl
integer_whole _ i = cc

whole_as : (t u : Ty) → yes t ≡ Ok u → is_whole t ≡ true → is_whole u ≡ true
whole_as t u e = subst (λ t. is_whole t ≡ true) (ok_type t u e)

whole_common : (a b t : Ty) → (found : Option Ty) → (found_is : supertype a b ≡ found) → ((c : Ty) → supertype a b ≡ Some c → is_whole c ≡ true) → found_common found ≡ Ok t → is_whole t ≡ true
whole_common a b t None e w h = cc
whole_common a b t (Some c) e w h = whole_as c t h (w c e)

whole_finer : (type t : Ty) (unit other : TimeUnit) → is_whole type ≡ true → finer_type type unit other ≡ Ok t → is_whole t ≡ true
whole_finer type t unit other w h =
    elim (nat_lt (unit_rank unit) (unit_rank other)) as (λ b. cond b (Ok type) (Err InvalidOperation) ≡ Ok t → is_whole t ≡ true) [ true ↦ λ h. whole_as type t h w | false ↦ λ h. cc ] h

whole_apart : (a b t : Ty) → is_whole b ≡ true → apart_type a b ≡ Ok t → is_whole t ≡ true
whole_apart NullType b t w h = whole_as b t h w
whole_apart (Integer signed bits) (Integer other width) t w h =
    whole_common (Integer signed bits) (Integer other width) t (supertype (Integer signed bits) (Integer other width)) refl (λ c e. integer_whole c (integer_common (Integer signed bits) (Integer other width) c refl refl e)) h
whole_apart (DatetimeType unit) (DatetimeType other) t w h = whole_finer (DatetimeType unit) t unit other refl h
whole_apart (DurationType unit) (DurationType other) t w h = whole_finer (DurationType unit) t unit other refl h
whole_apart a NullType t w h = cc
whole_apart _ _ t w h = cc

whole_member : (a b t : Ty) → is_whole b ≡ true → member_type a b ≡ Ok t → is_whole t ≡ true
whole_member a b t w h =
    elim (same_type a b) as (λ s. same_type a b ≡ s → cond s (Ok a) (apart_type a b) ≡ Ok t → is_whole t ≡ true) [
      | true ↦ λ e h. whole_as a t h (subst (λ y. is_whole y ≡ true) (sym (same_type_exact a b e)) w)
      | false ↦ λ e h. whole_apart a b t w h
    ] refl h

-- what the types are taken to: both are cast to it, and what was taken stays
pub record TakesMember (a b : Ty) (taken : Taken) : Type 0 where
  pub left : Ty
  pub right : Ty
  pub is : pair_to left right Truth ≡ taken
  pub left_casts : can_cast a left ≡ true
  pub right_casts : can_cast b right ≡ true
  pub left_known : is_known left ≡ true
  pub right_known : is_known right ≡ true
  pub stays : is_in_types left right ≡ Ok (pair_to left right Truth)

in_lists_taken : (a b x : Ty) (taken : Taken) → is_known a ≡ true → (found : Result Ty ErrorKind) → ((t : Ty) → found ≡ Ok t → (can_cast a t ≡ true) × (can_cast b (ListType t) ≡ true) × (is_known t ≡ true)) → in_lists found ≡ Ok taken → TakesMember a b taken
in_lists_taken a b x taken k (Err kind) each h = cc
in_lists_taken a b x taken k (Ok t) each h =
    let p = each t refl in
    subst (TakesMember a b) (ok_same (in_lists (Ok t)) (pair_to t (ListType t) Truth) taken refl h) (record {
      left = t;
      right = ListType t;
      is = refl;
      left_casts = p.0;
      right_casts = p.1;
      left_known = p.2;
      right_known = p.2;
      stays = ap in_lists (member_itself t);
    })

in_column_taken : (a b : Ty) (taken : Taken) → is_known a ≡ true → is_known b ≡ true → is_whole b ≡ true → (found : Result Ty ErrorKind) → member_type a b ≡ found → in_column found ≡ Ok taken → TakesMember a b taken
in_column_taken a b taken k l w (Err kind) e h = cc
in_column_taken a b taken k l w (Ok t) e h =
    let p = looks a b t k l e in
    subst (TakesMember a b) (ok_same (in_column (Ok t)) (pair_to t t Truth) taken refl h) (record {
      left = t;
      right = t;
      is = refl;
      left_casts = p.value;
      right_casts = p.items;
      left_known = p.known;
      right_known = p.known;
      stays = whole_stays t (whole_member a b t w e) ∙ ap in_column (member_itself t);
    })

pub takes_member : (a b : Ty) (taken : Taken) → is_known a ≡ true → is_known b ≡ true → is_in_types a b ≡ Ok taken → TakesMember a b taken
takes_member a (ListType item) taken k l h = in_lists_taken a (ListType item) item taken k (member_type a item) (λ t e. let p = looks a item t k l e in (p.value, p.items, p.known)) h
takes_member a NullType taken k l h = in_lists_taken a NullType NullType taken k (Ok a) (λ t e. let same = ok_type a t e in (subst (λ t. can_cast a t ≡ true) same (own_cast a k), subst (λ t. is_known t ≡ true) same k, subst (λ t. is_known t ≡ true) same k)) h
takes_member a b taken k l h = in_column_taken a b taken k l refl (member_type a b) refl h

-- ---- and what is given

has_fits : (x y : Val) → ConvertedFits Truth (list_has (x ∷ y ∷ []))
has_fits NullValue y = refl
has_fits (TruthValue truth) (ListValue items) = refl
has_fits (IntValue number) (ListValue items) = refl
has_fits (TextValue text) (ListValue items) = refl
has_fits (ListValue values) (ListValue items) = refl
has_fits (StructValue parts) (ListValue items) = refl
has_fits _ _ = refl

lists_fit : (t u : Typed) (row : Row) → RowIs (t ∷ u ∷ []) row → ConvertedFits Truth (list_has row)
lists_fit t u [] of = absurd of
lists_fit t u (x ∷ []) of = absurd of.1
lists_fit t u (x ∷ y ∷ []) of = has_fits x y
lists_fit t u (x ∷ y ∷ z ∷ row) of = absurd of.1.1

among_fits : (others : List Val) (value : Val) → IsTrue (fits (is_among_values others value) Truth)
among_fits others NullValue = refl
among_fits others _ = refl

all_among_fit : (others values : List Val) → IsTrue (all_fit (map (is_among_values others) values) Truth)
all_among_fit others [] = refl
all_among_fit others (value ∷ values) = and_from _ (all_fit (map (is_among_values others) values) Truth) (among_fits others value) (all_among_fit others values)

as_many : (others values : List Val) → length (map (is_among_values others) values) ≡ length values
as_many others [] = refl
as_many others (value ∷ values) = ap suc (as_many others values)

pub is_in_fit : (left right : Ty) (many some : Bool) (values others : List Val) → AreOf (record { type = left; many = many }) values → AreOf (record { type = right; many = some }) others → Meets (AreOf (record { type = Truth; many = many || (some || false) })) (is_in_values (left ∷ right ∷ []) (values ∷ others ∷ []))
is_in_fit left (ListType item) many some values others l r =
    let t : Typed = record { type = left; many = many } in
    let u : Typed = record { type = ListType item; many = some } in
    by_row_fits (t ∷ u ∷ []) Truth list_has (lists_fit t u) (values ∷ others ∷ []) (l, (r, tt))
is_in_fit left _ many some values others l r = record { fitting = all_among_fit others values; single = λ one. as_many others values ∙ l.single (or_parts many (some || false) one).0 }

-- ---- a field of a struct

pub field_known : (name : Name) (fields : Fields) (type : Ty) → are_known fields ≡ true → field_type name fields ≡ Some type → is_known type ≡ true
field_known name no_field type k h = cc
field_known name (with_field other found rest) type k h =
    let parts = and_parts (is_known found) (are_known rest) k in
    elim (same_name name other) as (λ b. cond b (Some found) (field_type name rest) ≡ Some type → is_known type ≡ true) [
      | true ↦ λ h. subst (λ t. is_known t ≡ true) (some_same found type h) parts.0
      | false ↦ λ h. field_known name rest type parts.1 h
    ] h

part_fits : (name : Name) (fields : Fields) (parts : Vals) (type : Ty) → parts_fit parts fields ≡ true → field_type name fields ≡ Some type → IsTrue (fits (part_named name fields parts) type)
part_fits name no_field parts type f h = cc
part_fits name (with_field other found rest) no_value type f h = cc
part_fits name (with_field other found rest) (with_value first others) type f h =
    let fit = and_parts (fits first found) (parts_fit others rest) f in
    elim (same_name name other) as (λ b. cond b (Some found) (field_type name rest) ≡ Some type → IsTrue (fits (cond b first (part_named name rest others)) type)) [
      | true ↦ λ h. subst (λ t. IsTrue (fits first t)) (some_same found type h) fit.0
      | false ↦ λ h. part_fits name rest others type fit.1 h
    ] h

struct_fits : (name : Name) (fields : Fields) (value : Val) (type : Ty) → fits value (StructType fields) ≡ true → field_type name fields ≡ Some type → ConvertedFits type (field_value name (StructType fields ∷ []) (value ∷ []))
struct_fits name fields (StructValue parts) type f h = part_fits name fields parts type f h
struct_fits name fields _ type f h = refl

structs_fit : (name : Name) (fields : Fields) (many : Bool) (type : Ty) → field_type name fields ≡ Some type → (row : Row) → RowIs (record { type = StructType fields; many = many } ∷ []) row → ConvertedFits type (field_value name (StructType fields ∷ []) row)
structs_fit name fields many type h [] of = absurd of
structs_fit name fields many type h (value ∷ []) of = struct_fits name fields value type of.0 h
structs_fit name fields many type h (value ∷ second ∷ row) of = absurd of.1

some_of : (many : Bool) → (many || false) ≡ many
some_of true = refl
some_of false = refl

pub field_fits : (name : Name) (fields : Fields) (many : Bool) (type : Ty) (values : List Val) → field_type name fields ≡ Some type → AreOf (record { type = StructType fields; many = many }) values → Meets (AreOf (record { type = type; many = many })) (by_row (field_value name (StructType fields ∷ [])) (values ∷ []))
field_fits name fields many type values h of =
    let t : Typed = record { type = StructType fields; many = many } in
    subst (λ m. Meets (AreOf (record { type = type; many = m })) (by_row (field_value name (StructType fields ∷ [])) (values ∷ []))) (some_of many) (by_row_fits (t ∷ []) type (field_value name (StructType fields ∷ [])) (structs_fit name fields many type h) (values ∷ []) (of, tt))
