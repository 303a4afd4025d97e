-- Lists and structs that are cast value by value: what is done, and what is left.
use Rattle.std.proofs.Common.{◌≡◌, ◌≢◌, ℕ, ◌+◌, ◌<◌, suc, Bool, true, false, ◌&&◌, [], ◌∷◌, ◌++◌, length, map, drop, get_or, Option, Some, None, refl, sym, ap, ◌∙◌, subst, arith}
use Rattle.std.proofs.Common.{List as Many}
use Rattle.std.proofs.lemmas.List.{map-append}
use Rattle.std.proofs.Math.Seq.{drop-length}
use Rattle.plan_types.proofs.ListLemmas.{item_left, pair_left}
use Rattle.plan_types.specs.Types.{Ty, ListType, StructType, Fields, ty, fields_in}
use Rattle.plan_types.specs.Values.{Val, ListValue, StructValue, Vals, no_value, with_value, fits, items_fit, parts_fit}
use Rattle.plan_types.specs.ValueViews.{val_of, values_from, values_in, IsCastError, IsPartsError}
use Rattle.plan_types.specs.Casts.{Converted, Gives, can_cast, can_cast_fields, cast, cast_items, cast_parts, converted_in_front, gathered}
use Rattle.plan_types.specs.declared.field.Field.{Field}
use Rattle.plan_types.specs.declared.value.Value.{Value}
use Rattle.plan_types.specs.declared.error.CastError.{CastError}
use Rattle.plan_types.specs.declared.error.CastError.TheVariants.{Failing, NoMemory}
use Rattle.plan_types.specs.declared.dtype.CastOptions.{CastOptions}

and_first : (a b : Bool) → (a && b) ≡ true → a ≡ true
and_first true b h = refl
and_first false b h = cc

and_second : (a b : Bool) → (a && b) ≡ true → b ≡ true
and_second true b h = h
and_second false b h = cc

false_from_not : (b : Bool) → (b ≡ true → ⊥) → false ≡ b
false_from_not true differs = absurd (differs refl)
false_from_not false differs = refl

-- ---- values behind those that are done

abbrev joined : Many Val → Vals → Vals
joined [] rest = rest
joined (first ∷ done) rest = with_value first (joined done rest)

abbrev behind : Many Val → Option Vals → Option Vals
behind done None = None
behind done (Some rest) = Some (joined done rest)

behind_none : (o : Option Vals) → o ≡ behind [] o
behind_none None = refl
behind_none (Some rest) = refl

joined_more : (done : Many Val) (x : Val) (rest : Vals) → joined done (with_value x rest) ≡ joined (done ++ x ∷ []) rest
joined_more [] x rest = refl
joined_more (first ∷ done) x rest = ap (with_value first) (joined_more done x rest)

behind_more : (done : Many Val) (x : Val) (o : Option Vals) → behind done (converted_in_front (Gives x) o) ≡ behind (done ++ x ∷ []) o
behind_more done x None = refl
behind_more done x (Some rest) = ap Some (joined_more done x rest)

joined_all : (done : Many Val) → joined done no_value ≡ values_from done
joined_all [] = refl
joined_all (first ∷ done) = ap (with_value first) (joined_all done)

-- the values that are done, and what the cast of those that are left gives
abbrev IsCasting : Option Vals → Many Value → Option Vals → Type 0
IsCasting whole done left = whole ≡ behind (map val_of done) left

casting_more : (whole rest : Option Vals) (done new : Many Value) (converted : Converted) (x : Value) → converted ≡ Gives (val_of x) → new ≡ done ++ x ∷ [] → IsCasting whole done (converted_in_front converted rest) → IsCasting whole new rest
casting_more whole rest done new converted x gives made casting =
    casting ∙ ap (λ v. behind (map val_of done) (converted_in_front v rest)) gives ∙ behind_more (map val_of done) (val_of x) rest ∙ ap (λ l. behind l rest) (sym (ap (map val_of) made ∙ map-append val_of done (x ∷ [])))

casting_fails : (whole rest : Option Vals) (done : Many Value) (converted : Converted) (e : CastError) → IsCastError converted e → IsCasting whole done (converted_in_front converted rest) → IsPartsError whole e
casting_fails whole rest done converted NoMemory fails casting = tt
casting_fails whole rest done converted Failing fails casting = casting ∙ ap (λ v. behind (map val_of done) (converted_in_front v rest)) fails

casting_end : (whole : Option Vals) (done : Many Value) → IsCasting whole done (Some no_value) → whole ≡ Some (values_in done)
casting_end whole done casting = casting ∙ ap Some (joined_all (map val_of done))

-- ---- lists

-- the values that are done, with what is left from a place on
pub record CastingItems (items : Many Value) (from to : Ty) (options : CastOptions) (done : Many Value) (n : ℕ) : Type 0 where
  pub casting : IsCasting (cast_items (values_in items) from to options) done (cast_items (values_in (drop n items)) from to options)
  pub fit : items_fit (values_in (drop n items)) from ≡ true

pub items_start : (items : Many Value) (from to : Ty) (options : CastOptions) (done : Many Value) → done ≡ [] → items_fit (values_in items) from ≡ true → CastingItems items from to options done 0
items_start items from to options done none fit =
    subst (λ l. CastingItems items from to options l 0) (sym none) (record { casting = behind_none _; fit = fit })

module _ {items : Many Value} {from to : Ty} {options : CastOptions} {done : Many Value} {n : ℕ} (c : CastingItems items from to options done n) where
  pub items_end : n ≡ length items → cast_items (values_in items) from to options ≡ Some (values_in done)
  items_end end =
      casting_end _ done (c.casting ∙ ap (λ l. behind (map val_of done) (cast_items (values_in l) from to options)) (ap (λ k. drop k items) end ∙ drop-length items))

  module _ (x : Value) (within : n < length items) (is : x ≡ get_or items n x) where
    fit_here : (fits (val_of x) from && items_fit (values_in (drop (n + 1) items)) from) ≡ true
    fit_here = sym (ap (λ l. items_fit (values_in l) from) (item_left items n x x within is)) ∙ c.fit

    casting_here : IsCasting (cast_items (values_in items) from to options) done (converted_in_front (cast (val_of x) from to options) (cast_items (values_in (drop (n + 1) items)) from to options))
    casting_here =
        c.casting ∙ ap (λ l. behind (map val_of done) (cast_items (values_in l) from to options)) (item_left items n x x within is)

    pub item_fits : fits (val_of x) from ≡ true
    item_fits = and_first _ _ fit_here

    pub items_step : (new : Many Value) (made : Value) → cast (val_of x) from to options ≡ Gives (val_of made) → new ≡ done ++ made ∷ [] → CastingItems items from to options new (n + 1)
    items_step new made gives grown = record {
      casting = casting_more _ _ done new _ made gives grown casting_here;
      fit = and_second _ _ fit_here;
    }

    pub items_fail : (e : CastError) → IsCastError (cast (val_of x) from to options) e → IsPartsError (cast_items (values_in items) from to options) e
    items_fail e fails = casting_fails _ _ done _ e fails casting_here

-- ---- structs

-- there are as many parts as fields, and as many fields as others
pub as_many_parts : (parts : Many Value) (fields : Many Field) → parts_fit (values_in parts) (fields_in fields) ≡ true → length parts ≡ length fields
as_many_parts [] [] fit = refl
as_many_parts [] (field ∷ fields) fit = cc
as_many_parts (part ∷ parts) [] fit = cc
as_many_parts (part ∷ parts) (field ∷ fields) fit = ap suc (as_many_parts parts fields (and_second _ _ fit))

pub as_many_fields : (fields others : Many Field) → can_cast_fields (fields_in fields) (fields_in others) ≡ true → length fields ≡ length others
as_many_fields [] [] known = refl
as_many_fields [] (other ∷ others) known = cc
as_many_fields (field ∷ fields) [] known = cc
as_many_fields (field ∷ fields) (other ∷ others) known = ap suc (as_many_fields fields others (and_second _ _ known))

-- lists of fields of different lengths have no cast
pub no_cast_apart : (fields others : Many Field) → length fields ≢ length others → false ≡ can_cast_fields (fields_in fields) (fields_in others)
no_cast_apart fields others differ = false_from_not _ (λ known. differ (as_many_fields fields others known))

-- the fields from a place on
module _ (from to : Many Field) where
  abbrev AskedFrom : ℕ → Type 0
  AskedFrom n = can_cast_fields (fields_in from) (fields_in to) ≡ can_cast_fields (fields_in (drop n from)) (fields_in (drop n to))

  pub pair_known : (n : ℕ) (f df t dt : Field) (r : Bool) → n < length from → length from ≡ length to → f ≡ get_or from n df → t ≡ get_or to n dt → r ≡ can_cast (ty f.dtype) (ty t.dtype) → AskedFrom n → can_cast_fields (fields_in from) (fields_in to) ≡ (r && can_cast_fields (fields_in (drop (n + 1) from)) (fields_in (drop (n + 1) to)))
  pair_known n f df t dt r within even is_from is_to told asked =
      asked ∙ pair_left (λ fs ts. can_cast_fields (fields_in fs) (fields_in ts)) from to n f df t dt within (omega arith) is_from is_to ∙ ap (λ b. b && can_cast_fields (fields_in (drop (n + 1) from)) (fields_in (drop (n + 1) to))) (sym told)

  pub all_known : (n : ℕ) → n ≡ length from → length from ≡ length to → AskedFrom n → true ≡ can_cast_fields (fields_in from) (fields_in to)
  all_known n end even asked =
      let left = ap (λ k. drop k from) end ∙ drop-length from in
      let right = ap (λ k. drop k to) (end ∙ even) ∙ drop-length to in
      sym (asked ∙ ap (λ l. can_cast_fields (fields_in l) (fields_in (drop n to))) left ∙ ap (λ l. can_cast_fields (fields_in []) (fields_in l)) right)

module _ (parts : Many Value) (from to : Many Field) (options : CastOptions) (done : Many Value) where
  abbrev cast_from : Many Value → Many Field → Many Field → Option Vals
  cast_from ps fs ts = cast_parts (values_in ps) (fields_in fs) (fields_in ts) options

  pub record CastingParts (n : ℕ) : Type 0 where
    pub casting : IsCasting (cast_from parts from to) done (cast_from (drop n parts) (drop n from) (drop n to))
    pub fit : parts_fit (values_in (drop n parts)) (fields_in (drop n from)) ≡ true
    pub known : can_cast_fields (fields_in (drop n from)) (fields_in (drop n to)) ≡ true

  -- at a place: the part with its two fields, and what follows
  pub record PartLeft (n : ℕ) (x : Value) (f t : Field) : Type 0 where
    pub casting : IsCasting (cast_from parts from to) done (converted_in_front (cast (val_of x) (ty f.dtype) (ty t.dtype) options) (cast_from (drop (n + 1) parts) (drop (n + 1) from) (drop (n + 1) to)))
    pub fit : (fits (val_of x) (ty f.dtype) && parts_fit (values_in (drop (n + 1) parts)) (fields_in (drop (n + 1) from))) ≡ true
    pub known : (can_cast (ty f.dtype) (ty t.dtype) && can_cast_fields (fields_in (drop (n + 1) from)) (fields_in (drop (n + 1) to))) ≡ true

  pub parts_start : done ≡ [] → parts_fit (values_in parts) (fields_in from) ≡ true → can_cast_fields (fields_in from) (fields_in to) ≡ true → CastingParts 0
  parts_start none fit known = record {
    casting = subst (λ l. IsCasting (cast_from parts from to) l (cast_from parts from to)) (sym none) (behind_none _);
    fit = fit;
    known = known;
  }

  pub parts_end : (n : ℕ) → n ≡ length parts → CastingParts n → cast_from parts from to ≡ Some (values_in done)
  parts_end n end c =
      casting_end _ done (c.casting ∙ ap (λ l. behind (map val_of done) (cast_from l (drop n from) (drop n to))) (ap (λ k. drop k parts) end ∙ drop-length parts))

  pub part_left : (n : ℕ) (x : Value) (f t : Field) → parts_fit (values_in parts) (fields_in from) ≡ true → can_cast_fields (fields_in from) (fields_in to) ≡ true → n < length parts → x ≡ get_or parts n x → CastingParts n → PartLeft n x (get_or from n f) (get_or to n t)
  part_left n x f t fit known within is c =
      let also : n < length from = omega (arith, within, as_many_parts parts from fit) in
      let third : n < length to = omega (arith, also, as_many_fields from to known) in
      let fields = pair_left (cast_from (x ∷ drop (n + 1) parts)) from to n (get_or from n f) f (get_or to n t) t also third refl refl in
      record {
        casting = c.casting ∙ ap (behind (map val_of done)) (ap (λ l. cast_from l (drop n from) (drop n to)) (item_left parts n x x within is) ∙ fields);
        fit = sym (pair_left (λ ps fs. parts_fit (values_in ps) (fields_in fs)) parts from n x x (get_or from n f) f within also is refl) ∙ c.fit;
        known = sym (pair_left (λ fs ts. can_cast_fields (fields_in fs) (fields_in ts)) from to n (get_or from n f) f (get_or to n t) t also third refl refl) ∙ c.known;
      }

module _ {parts : Many Value} {from to : Many Field} {options : CastOptions} {done : Many Value} {n : ℕ} {x : Value} {f t : Field} (left : PartLeft parts from to options done n x f t) where
  pub part_fits : fits (val_of x) (ty f.dtype) ≡ true
  part_fits = and_first _ _ left.fit

  pub part_known : can_cast (ty f.dtype) (ty t.dtype) ≡ true
  part_known = and_first _ _ left.known

  pub parts_step : (new : Many Value) (made : Value) → cast (val_of x) (ty f.dtype) (ty t.dtype) options ≡ Gives (val_of made) → new ≡ done ++ made ∷ [] → CastingParts parts from to options new (n + 1)
  parts_step new made gives grown = record {
    casting = casting_more _ _ done new _ made gives grown left.casting;
    fit = and_second _ _ left.fit;
    known = and_second _ _ left.known;
  }

  pub parts_fail : (e : CastError) → IsCastError (cast (val_of x) (ty f.dtype) (ty t.dtype) options) e → IsPartsError (cast_parts (values_in parts) (fields_in from) (fields_in to) options) e
  parts_fail e fails = casting_fails _ _ done _ e fails left.casting

-- ---- the whole

pub list_known : (f t i o : Ty) → f ≡ ListType i → t ≡ ListType o → can_cast f t ≡ true → can_cast i o ≡ true
list_known f t i o is_from is_to h = sym (ap (λ x. can_cast x t) is_from ∙ ap (can_cast (ListType i)) is_to) ∙ h

pub list_items_fit : (v : Val) (vs : Vals) (f i : Ty) → v ≡ ListValue vs → f ≡ ListType i → fits v f ≡ true → items_fit vs i ≡ true
list_items_fit v vs f i is is_from h = sym (ap (λ x. fits x f) is ∙ ap (fits (ListValue vs)) is_from) ∙ h

pub structs_known : (f t : Ty) (i o : Fields) → f ≡ StructType i → t ≡ StructType o → can_cast f t ≡ can_cast_fields i o
structs_known f t i o is_from is_to = ap (λ x. can_cast x t) is_from ∙ ap (can_cast (StructType i)) is_to

pub struct_known : (f t : Ty) (i o : Fields) → f ≡ StructType i → t ≡ StructType o → can_cast f t ≡ true → can_cast_fields i o ≡ true
struct_known f t i o is_from is_to h = sym (structs_known f t i o is_from is_to) ∙ h

pub struct_parts_fit : (v : Val) (vs : Vals) (f : Ty) (i : Fields) → v ≡ StructValue vs → f ≡ StructType i → fits v f ≡ true → parts_fit vs i ≡ true
struct_parts_fit v vs f i is is_from h = sym (ap (λ x. fits x f) is ∙ ap (fits (StructValue vs)) is_from) ∙ h

struct_cast : (v : Val) (vs : Vals) (f t : Ty) (i o : Fields) (options : CastOptions) → v ≡ StructValue vs → f ≡ StructType i → t ≡ StructType o → cast v f t options ≡ gathered StructValue (cast_parts vs i o options)
struct_cast v vs f t i o options is is_from is_to =
    ap (λ x. cast x f t options) is ∙ ap (λ x. cast (StructValue vs) x t options) is_from ∙ ap (λ x. cast (StructValue vs) (StructType i) x options) is_to

pub struct_gives : (v : Val) (vs made : Vals) (f t : Ty) (i o : Fields) (options : CastOptions) → v ≡ StructValue vs → f ≡ StructType i → t ≡ StructType o → cast_parts vs i o options ≡ Some made → cast v f t options ≡ Gives (StructValue made)
struct_gives v vs made f t i o options is is_from is_to h = struct_cast v vs f t i o options is is_from is_to ∙ ap (gathered StructValue) h

pub struct_fails : (v : Val) (vs : Vals) (f t : Ty) (i o : Fields) (options : CastOptions) (e : CastError) → v ≡ StructValue vs → f ≡ StructType i → t ≡ StructType o → IsPartsError (cast_parts vs i o options) e → IsCastError (cast v f t options) e
struct_fails v vs f t i o options NoMemory is is_from is_to h = tt
struct_fails v vs f t i o options Failing is is_from is_to h = struct_cast v vs f t i o options is is_from is_to ∙ ap (gathered StructValue) h
