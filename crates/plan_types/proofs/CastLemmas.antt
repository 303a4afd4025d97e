-- Laws of casts.
use Rattle.std.proofs.Common.{◌≡◌, ◌≢◌, ℕ, Bool, true, false, cond, nat_lt, ◌*◌, Option, Some, None, List, encode_utf8_all, refl, sym, ap, ◌∙◌, subst}
use Rattle.std.specs.Prelude.{ℤ}
use Rattle.plan_types.specs.Types.{Ty, NullType, Truth, Integer, TextType, DateType, TimeType, DatetimeType, DurationType, ListType, StructType, Untyped, Fields, no_field, with_field, are_known, is_known, per_day}
use Rattle.plan_types.specs.Values.{Val, NullValue, TruthValue, IntValue, TextValue, ListValue, StructValue, Vals, no_value, with_value, in_range, fits, items_fit, parts_fit}
use Rattle.plan_types.specs.declared.dtype.CastOptions.{CastOptions}
use Rattle.plan_types.specs.declared.dtype.CastOptions.TheVariants.{Strict, NonStrict, Overflowing}
use Rattle.plan_types.specs.declared.dtype.TimeUnit.{TimeUnit}
use Rattle.plan_types.specs.Supertypes.{in_front, super_fields, supertype, signed_above}
use Rattle.std.specs.Str.{bytes_eq}
use Rattle.std.proofs.lemmas.Bool.{and_parts, and_from}
use Rattle.plan_types.proofs.MadeLemmas.{made_of, front_of}
use Rattle.plan_types.specs.Casts.{Converted, Gives, Fails, can_cast, can_cast_fields, cast, cast_items, cast_parts, converted_in_front, gathered, integer_to, no_place, number_in, number_of, number_to, out_of_range, placed, read_as, rescaled, text_to, truth_to}
use Rattle.plan_types.proofs.SupertypeLemmas.{no_number, supertype_symmetric}
use Rattle.plan_types.proofs.ValueLemmas.{ConvertedFits, cast_fits, rescaled_itself}

placed_there : (type : Ty) (number : ℤ) (options : CastOptions) → in_range type number ≡ true → placed options type number ≡ Gives (IntValue number)
placed_there type number options h = ap (λ b. cond b (Gives (IntValue number)) (no_place options)) h

rescaled_there : (type : Ty) (unit : TimeUnit) (number : ℤ) (options : CastOptions) → in_range type number ≡ true → placed options type (rescaled (per_day unit) (per_day unit) number) ≡ Gives (IntValue number)
rescaled_there type unit number options h = ap (placed options type) (rescaled_itself unit number) ∙ placed_there type number options h

number_itself : (number : ℤ) (type : Ty) (options : CastOptions) → in_range type number ≡ true → number_to type number type options ≡ Gives (IntValue number)
number_itself number (Integer signed bits) options h = ap (λ b. cond b (Gives (IntValue number)) (out_of_range options (Integer signed bits) number)) h
number_itself number (DatetimeType unit) options h = rescaled_there (DatetimeType unit) unit number options h
number_itself number (DurationType unit) options h = rescaled_there (DurationType unit) unit number options h
number_itself number DateType options h = placed_there DateType number options h
number_itself number TimeType options h = placed_there TimeType number options h
number_itself number NullType options h = absurd (no_number NullType number refl refl h)
number_itself number Truth options h = absurd (no_number Truth number refl refl h)
number_itself number TextType options h = absurd (no_number TextType number refl refl h)
number_itself number (ListType item) options h = absurd (no_number (ListType item) number refl refl h)
number_itself number (StructType fields) options h = absurd (no_number (StructType fields) number refl refl h)
number_itself number (Untyped other) options h = placed_there (Untyped other) number options h

-- a cast to the own type changes nothing
mutual
  pub cast_itself : (value : Val) (type : Ty) (options : CastOptions) → fits value type ≡ true → cast value type type options ≡ Gives value
  cast_itself NullValue type options h = refl
  cast_itself (TruthValue truth) Truth options h = refl
  cast_itself (TruthValue truth) _ options h = cc
  cast_itself (IntValue number) type options h = number_itself number type options h
  cast_itself (TextValue text) TextType options h = refl
  cast_itself (TextValue text) _ options h = cc
  cast_itself (ListValue items) (ListType item) options h = ap (gathered ListValue) (items_itself items item options h)
  cast_itself (ListValue items) _ options h = cc
  cast_itself (StructValue parts) (StructType fields) options h = ap (gathered StructValue) (parts_itself parts fields options h)
  cast_itself (StructValue parts) _ options h = cc

  items_itself : (items : Vals) (type : Ty) (options : CastOptions) → items_fit items type ≡ true → cast_items items type type options ≡ Some items
  items_itself no_value type options h = refl
  items_itself (with_value first rest) type options h =
      let p = and_parts (fits first type) (items_fit rest type) h in
      ap (λ c. converted_in_front c (cast_items rest type type options)) (cast_itself first type options p.0) ∙ ap (converted_in_front (Gives first)) (items_itself rest type options p.1)

  parts_itself : (parts : Vals) (fields : Fields) (options : CastOptions) → parts_fit parts fields ≡ true → cast_parts parts fields fields options ≡ Some parts
  parts_itself no_value no_field options h = refl
  parts_itself no_value (with_field name type others) options h = cc
  parts_itself (with_value first rest) no_field options h = cc
  parts_itself (with_value first rest) (with_field name type others) options h =
      let p = and_parts (fits first type) (parts_fit rest others) h in
      ap (λ c. converted_in_front c (cast_parts rest others others options)) (cast_itself first type options p.0) ∙ ap (converted_in_front (Gives first)) (parts_itself rest others options p.1)

no_place_never_fails : (options : CastOptions) → options ≢ Strict → no_place options ≢ Fails
no_place_never_fails Strict n e = n refl
no_place_never_fails NonStrict n e = cc
no_place_never_fails Overflowing n e = cc

out_of_range_never_fails : (options : CastOptions) (target : Ty) (number : ℤ) → options ≢ Strict → out_of_range options target number ≢ Fails
out_of_range_never_fails Strict target number n e = n refl
out_of_range_never_fails NonStrict target number n e = cc
out_of_range_never_fails Overflowing target number n e = cc

placed_never_fails : (options : CastOptions) (type : Ty) (number : ℤ) → options ≢ Strict → placed options type number ≢ Fails
placed_never_fails options type number n e =
    elim (in_range type number) as (λ b. cond b (Gives (IntValue number)) (no_place options) ≡ Fails → ⊥) [ true ↦ λ g. cc | false ↦ no_place_never_fails options n ] e

integer_never_fails : (number : ℤ) (target : Ty) (options : CastOptions) → options ≢ Strict → integer_to number target options ≢ Fails
integer_never_fails number Truth options n e = cc
integer_never_fails number TextType options n e = cc
integer_never_fails number (Integer signed bits) options n e =
    elim (in_range (Integer signed bits) number) as (λ b. cond b (Gives (IntValue number)) (out_of_range options (Integer signed bits) number) ≡ Fails → ⊥) [ true ↦ λ g. cc | false ↦ out_of_range_never_fails options (Integer signed bits) number n ] e
integer_never_fails number target options n e = placed_never_fails options target number n e

number_never_fails : (from : Ty) (number : ℤ) (target : Ty) (options : CastOptions) → options ≢ Strict → number_to from number target options ≢ Fails
number_never_fails DateType number (DatetimeType unit) options n e = placed_never_fails options (DatetimeType unit) (rescaled 1 (per_day unit) number) n e
number_never_fails (DatetimeType unit) number DateType options n e = placed_never_fails options DateType (rescaled (per_day unit) 1 number) n e
number_never_fails (DatetimeType unit) number (DatetimeType other) options n e = placed_never_fails options (DatetimeType other) (rescaled (per_day unit) (per_day other) number) n e
number_never_fails (DurationType unit) number (DurationType other) options n e = placed_never_fails options (DurationType other) (rescaled (per_day unit) (per_day other) number) n e
number_never_fails from number target options n e = integer_never_fails number target options n e

truth_never_fails : (truth : Bool) (target : Ty) (options : CastOptions) → options ≢ Strict → truth_to truth target options ≢ Fails
truth_never_fails truth Truth options n e = cc
truth_never_fails truth (Integer signed bits) options n e = integer_never_fails (number_of truth) (Integer signed bits) options n e
truth_never_fails truth TextType options n e = cc
truth_never_fails truth _ options n e = no_place_never_fails options n e

text_never_fails : (text : List ℕ) (target : Ty) (options : CastOptions) → options ≢ Strict → text_to text target options ≢ Fails
text_never_fails text (Integer signed bits) options n e =
    elim (number_in (encode_utf8_all text)) as (λ o. read_as (Integer signed bits) options o ≡ Fails → ⊥) [ None ↦ no_place_never_fails options n | Some number ↦ placed_never_fails options (Integer signed bits) number n ] e
text_never_fails text TextType options n e = cc
text_never_fails text _ options n e = no_place_never_fails options n e

in_front_never_fails : (c : Converted) (rest : Option Vals) → c ≢ Fails → rest ≢ None → converted_in_front c rest ≢ None
in_front_never_fails Fails rest f g e = f refl
in_front_never_fails (Gives first) None f g e = g refl
in_front_never_fails (Gives first) (Some rest) f g e = cc

gathered_never_fails : (make : Vals → Val) (values : Option Vals) → values ≢ None → gathered make values ≢ Fails
gathered_never_fails make None g e = g refl
gathered_never_fails make (Some values) g e = cc

-- one that isn't strict never fails
mutual
  pub cast_never_fails : (value : Val) (from target : Ty) (options : CastOptions) → options ≢ Strict → cast value from target options ≢ Fails
  cast_never_fails NullValue from target options n e = cc
  cast_never_fails (TruthValue truth) from target options n e = truth_never_fails truth target options n e
  cast_never_fails (IntValue number) from target options n e = number_never_fails from number target options n e
  cast_never_fails (TextValue text) from target options n e = text_never_fails text target options n e
  cast_never_fails (ListValue items) (ListType item) (ListType other) options n e = gathered_never_fails ListValue (cast_items items item other options) (items_never_fail items item other options n) e
  cast_never_fails (ListValue items) (ListType item) _ options n e = no_place_never_fails options n e
  cast_never_fails (ListValue items) _ target options n e = no_place_never_fails options n e
  cast_never_fails (StructValue parts) (StructType fields) (StructType others) options n e = gathered_never_fails StructValue (cast_parts parts fields others options) (parts_never_fail parts fields others options n) e
  cast_never_fails (StructValue parts) (StructType fields) _ options n e = no_place_never_fails options n e
  cast_never_fails (StructValue parts) _ target options n e = no_place_never_fails options n e

  items_never_fail : (items : Vals) (from target : Ty) (options : CastOptions) → options ≢ Strict → cast_items items from target options ≢ None
  items_never_fail no_value from target options n e = cc
  items_never_fail (with_value first rest) from target options n e =
      in_front_never_fails (cast first from target options) (cast_items rest from target options) (cast_never_fails first from target options n) (items_never_fail rest from target options n) e

  parts_never_fail : (parts : Vals) (fields others : Fields) (options : CastOptions) → options ≢ Strict → cast_parts parts fields others options ≢ None
  parts_never_fail (with_value first rest) (with_field name from froms) (with_field other target targets) options n e =
      in_front_never_fails (cast first from target options) (cast_parts rest froms targets options) (cast_never_fails first from target options n) (parts_never_fail rest froms targets options n) e
  parts_never_fail no_value _ _ options n e = cc
  parts_never_fail (with_value first rest) no_field _ options n e = cc
  parts_never_fail (with_value first rest) (with_field name from froms) no_field options n e = cc

pub given_fits : (value converted : Val) (from target : Ty) (options : CastOptions) → fits value from ≡ true → can_cast from target ≡ true → cast value from target options ≡ Gives converted → fits converted target ≡ true
given_fits value converted from target options h k e = subst (ConvertedFits target) e (cast_fits value from target options h k)

-- there is a cast from a type of columns to itself
mutual
  pub cast_own : (type : Ty) → is_known type ≡ true → can_cast type type ≡ true
  cast_own (Untyped number) k = cc
  cast_own (ListType item) k = cast_own item k
  cast_own (StructType fields) k = cast_own_fields fields k
  cast_own _ k = refl

  cast_own_fields : (fields : Fields) → are_known fields ≡ true → can_cast_fields fields fields ≡ true
  cast_own_fields no_field k = refl
  cast_own_fields (with_field name type rest) k = let p = and_parts (is_known type) (are_known rest) k in and_from _ _ (cast_own type p.0) (cast_own_fields rest p.1)

-- what two can be cast to
both_cast : (a b t c : Ty) → can_cast a t ≡ true → can_cast b t ≡ true → Some t ≡ Some c → (can_cast a c ≡ true) × (can_cast b c ≡ true)
both_cast a b t c g h e = let same : t ≡ c = cc in (subst (λ t. can_cast a t ≡ true) same g, subst (λ t. can_cast b t ≡ true) same h)

above_casts : (s t : Bool) (m n k l : ℕ) (c : Ty) → signed_above k l ≡ Some c → (can_cast (Integer s m) c ≡ true) × (can_cast (Integer t n) c ≡ true)
above_casts s t m n k l c h =
    elim (nat_lt l k) as (λ b. cond b (Some (Integer true k)) (cond (nat_lt l 64) (Some (Integer true (2 * l))) None) ≡ Some c → (can_cast (Integer s m) c ≡ true) × (can_cast (Integer t n) c ≡ true)) [
      | true ↦ λ h. both_cast (Integer s m) (Integer t n) (Integer true k) c refl refl h
      | false ↦ λ h. elim (nat_lt l 64) as (λ b. cond b (Some (Integer true (2 * l))) None ≡ Some c → (can_cast (Integer s m) c ≡ true) × (can_cast (Integer t n) c ≡ true)) [ true ↦ λ h. both_cast (Integer s m) (Integer t n) (Integer true (2 * l)) c refl refl h | false ↦ λ h. cc ] h
    ] h

-- there is a cast from each of two types of columns to their common type
mutual
  pub supertype_casts : (a b c : Ty) → is_known a ≡ true → is_known b ≡ true → supertype a b ≡ Some c → (can_cast a c ≡ true) × (can_cast b c ≡ true)
  supertype_casts NullType b c k l h = both_cast NullType b b c l (cast_own b l) h
  supertype_casts Truth Truth c k l h = both_cast Truth Truth Truth c refl refl h
  supertype_casts (Integer true m) (Integer true n) c k l h = both_cast (Integer true m) (Integer true n) _ c refl refl h
  supertype_casts (Integer false m) (Integer false n) c k l h = both_cast (Integer false m) (Integer false n) _ c refl refl h
  supertype_casts (Integer true m) (Integer false n) c k l h = above_casts true false m n m n c h
  supertype_casts (Integer false m) (Integer true n) c k l h = above_casts false true m n n m c h
  supertype_casts (Untyped m) b c k l h = cc
  supertype_casts a NullType c k l h = both_cast a NullType a c (cast_own a k) k (sym (supertype_symmetric a NullType) ∙ h)
  supertype_casts Truth (Integer s n) c k l h = both_cast Truth (Integer s n) _ c refl refl h
  supertype_casts (Integer s m) Truth c k l h = both_cast (Integer s m) Truth _ c refl refl h
  supertype_casts Truth TextType c k l h = both_cast Truth TextType _ c refl refl h
  supertype_casts TextType Truth c k l h = both_cast TextType Truth _ c refl refl h
  supertype_casts (Integer s m) TextType c k l h = both_cast (Integer s m) TextType _ c refl refl h
  supertype_casts TextType (Integer s n) c k l h = both_cast TextType (Integer s n) _ c refl refl h
  supertype_casts TextType TextType c k l h = both_cast TextType TextType _ c refl refl h
  supertype_casts DateType DateType c k l h = both_cast DateType DateType _ c refl refl h
  supertype_casts DateType (DatetimeType u) c k l h = both_cast DateType (DatetimeType u) _ c refl refl h
  supertype_casts (DatetimeType u) DateType c k l h = both_cast (DatetimeType u) DateType _ c refl refl h
  supertype_casts TimeType TimeType c k l h = both_cast TimeType TimeType _ c refl refl h
  supertype_casts (DatetimeType u) (DatetimeType v) c k l h = both_cast (DatetimeType u) (DatetimeType v) _ c refl refl h
  supertype_casts (DurationType u) (DurationType v) c k l h = both_cast (DurationType u) (DurationType v) _ c refl refl h
  supertype_casts (ListType a) (ListType b) c k l h =
      let m = made_of ListType (supertype a b) c h in
      let p = supertype_casts a b m.part k l m.part_is in
      (subst (λ t. can_cast (ListType a) t ≡ true) m.made_is p.0, subst (λ t. can_cast (ListType b) t ≡ true) m.made_is p.1)
  supertype_casts (StructType f) (StructType g) c k l h =
      let m = made_of StructType (super_fields f g) c h in
      let p = fields_cast f g m.part k l m.part_is in
      (subst (λ t. can_cast (StructType f) t ≡ true) m.made_is p.0, subst (λ t. can_cast (StructType g) t ≡ true) m.made_is p.1)
  supertype_casts _ _ c k l h = cc

  fields_cast : (f g c : Fields) → are_known f ≡ true → are_known g ≡ true → super_fields f g ≡ Some c → (can_cast_fields f c ≡ true) × (can_cast_fields g c ≡ true)
  fields_cast no_field no_field c k l h = let same : no_field ≡ c = cc in (subst (λ f. can_cast_fields no_field f ≡ true) same refl, subst (λ f. can_cast_fields no_field f ≡ true) same refl)
  fields_cast no_field (with_field m u s) c k l h = cc
  fields_cast (with_field n t r) no_field c k l h = cc
  fields_cast (with_field n t r) (with_field m u s) c k l h =
      elim (bytes_eq n m) as (λ b. cond b (in_front n (supertype t u) (super_fields r s)) None ≡ Some c → (can_cast_fields (with_field n t r) c ≡ true) × (can_cast_fields (with_field m u s) c ≡ true)) [
        | true ↦ λ h.
            let p = front_of n (supertype t u) (super_fields r s) c h in
            let left = and_parts (is_known t) (are_known r) k in
            let right = and_parts (is_known u) (are_known s) l in
            let here = supertype_casts t u p.type left.0 right.0 p.type_is in
            let there = fields_cast r s p.rest left.1 right.1 p.rest_is in (
              subst (λ f. can_cast_fields (with_field n t r) f ≡ true) p.made_is (and_from _ _ here.0 there.0),
              subst (λ f. can_cast_fields (with_field m u s) f ≡ true) p.made_is (and_from _ _ here.1 there.1),
            )
        | false ↦ λ h. cc
      ] h

-- what is cast has a type of columns
mutual
  pub source_known : (from target : Ty) → can_cast from target ≡ true → is_known from ≡ true
  source_known (ListType item) (ListType other) h = source_known item other h
  source_known (StructType fields) (StructType others) h = sources_known fields others h
  source_known (ListType item) _ h = cc
  source_known (StructType fields) _ h = cc
  source_known (Untyped number) _ h = cc
  source_known _ _ h = refl

  sources_known : (fields others : Fields) → can_cast_fields fields others ≡ true → are_known fields ≡ true
  sources_known no_field _ h = refl
  sources_known (with_field name type rest) no_field h = cc
  sources_known (with_field name type rest) (with_field other found others) h =
      let parts = and_parts (can_cast type found) (can_cast_fields rest others) h in
      and_from (is_known type) (are_known rest) (source_known type found parts.0) (sources_known rest others parts.1)
