-- What the calls of an unpivot give: values that are put behind others, and columns that are found by their names.
use Rattle.std.proofs.Common.{◌≡◌, ◌∙◌, ◌+◌, ◌<◌, ℕ, zero, suc, codes, List, [], ◌∷◌, ◌++◌, filter, get_or, length, map, slice_get, take, Bool, true, false, true≢false, cond, not, unwrap_or, ◌||◌, Option, Some, None, Bor, refl, sym, ap, subst, arith, append_assoc, append-nil}
use Rattle.std.specs.Option.{option_map}
use Rattle.std.specs.Str.{chars}
use Rattle.std.proofs.lemmas.Bool.{and_parts}
use Rattle.std.proofs.lemmas.List.{map-append, take_more}
use Rattle.std.proofs.lemmas.List.Elements.{filter-append}
use Rattle.std.proofs.lemmas.List.Folds.{list_all_at}
use Rattle.std.proofs.lemmas.Str.{chars-encodes}
use Rattle.plan_types.specs.Types.{Ty, NullType, ty}
use Rattle.plan_types.specs.Schemas.{Name, is_among, names_of, same_name}
use Rattle.plan_types.specs.SchemaCalls.{column_at}
use Rattle.plan_types.specs.Values.{Val, all_fit, fits}
use Rattle.plan_types.specs.ValueViews.{val_of}
use Rattle.plan_types.specs.Casts.{can_cast}
use Rattle.plan_types.specs.FrameFaults.{head_of, heads_of, shown, vals_of}
use Rattle.plan_types.specs.declared.column.Column.{Column}
use Rattle.plan_types.specs.declared.dtype.DataType.{DataType}
use Rattle.plan_types.specs.declared.value.Value.{Value}
use Rattle.plan_types.proofs.ListLemmas.{mapped_more}
use Rattle.plan_dsl.specs.Drops.{have_names}
use Rattle.plan_exec.specs.ColumnFunctions.{AllCast, columns_named}
use Rattle.plan_exec.specs.LaidFrames.{Shown, column_under}

-- ---- values that are put behind others

-- what a function gives of one more value
pub value_more : (f : Val → Val) (values before : List Val) (now after : List Value) (row : ℕ) (value default : Val) (own : Value) → row < length values → value ≡ get_or values row default → map val_of now ≡ before ++ map f (take row values) → after ≡ now ++ own ∷ [] → val_of own ≡ f value → map val_of after ≡ before ++ map f (take (row + 1) values)
value_more f values before now after row value default own within at so_far put is =
    let made = map f (take row values) in
    let next = ap (map f) (take_more values row default within) ∙ map-append f (take row values) (get_or values row default ∷ []) ∙ ap (λ v. made ++ f v ∷ []) (sym at) in
    ap (map val_of) put ∙ map-append val_of now (own ∷ []) ∙ (λ i. so_far i ++ is i ∷ []) ∙ append_assoc before made (f value ∷ []) ∙ ap (λ l. before ++ l) (sym next)

-- a value of values that fit fits
pub value_fits : (values : List Val) (row : ℕ) (value : Val) (type : Ty) → all_fit values type ≡ true → slice_get values row ≡ Some value → fits value type ≡ true
value_fits [] row value type h at = cc
value_fits (first ∷ values) zero value type h at =
    let same : first ≡ value = cc in
    subst (λ v. fits v type ≡ true) same (and_parts (fits first type) (all_fit values type) h).0
value_fits (first ∷ values) (suc row) value type h at = value_fits values row value type (and_parts (fits first type) (all_fit values type) h).1 at

-- ---- names of columns that are made

-- the characters of the names by default
pub variable_characters : chars (codes "variable") ≡ codes "variable"
unfolding lib.Utf8.encode
variable_characters = chars-encodes (codes "variable") refl

pub value_characters : chars (codes "value") ≡ codes "value"
unfolding lib.Utf8.encode
value_characters = chars-encodes (codes "value") refl

-- the type of what was found
pub type_found : (found : Option DataType) (dtype : DataType) (type : Option Ty) → option_map ty found ≡ type → found ≡ Some dtype → ty dtype ≡ unwrap_or type NullType
type_found found dtype type is some = ap (λ o. unwrap_or o NullType) (sym (ap (option_map ty) some) ∙ is)

-- a column of columns that can be cast
pub cast_at : (type : Ty) (columns : List (Bor Column)) (i : ℕ) (column : Bor Column) → AllCast type (map (λ column. shown column.now) columns) → i < length columns → column ≡ get_or columns i column → (can_cast (ty column.now.dtype) type ≡ true) × (all_fit (vals_of column.now.values) (ty column.now.dtype) ≡ true)
cast_at type [] i column h within at = absurd (omega (arith, within))
cast_at type (c ∷ cs) zero column h within at = subst (λ (x : Bor Column). (can_cast (ty x.now.dtype) type ≡ true) × (all_fit (vals_of x.now.values) (ty x.now.dtype) ≡ true)) (sym at) h.0
cast_at type (c ∷ cs) (suc i) column h within at = cast_at type cs i column h.1 (omega (arith, within)) at

-- ---- columns by their names

-- what is found of a name: a place, and a column's name and type
abbrev Found : Type 0
Found = ℕ × (Name × Ty)

-- what is found in later columns is one place further on
abbrev one_on : Option Found → Option Found
one_on found = option_map (λ found. (suc found.0, found.1)) found

-- one thing that is found is the other
same_found : (found other : Found) → Some found ≡ Some other → found ≡ other
same_found found other is = cc

module _ (name : Name) (head : Name × Ty) where
  -- what is found at the place is found one place further in front among later columns
  record IsLater (place : ℕ) (columns : List Column) : Type 0 where
    before : ℕ
    is : place ≡ suc before
    there : Some (before, head) ≡ column_at (heads_of columns) name

  -- what is found beside the first column
  later_place : (place : ℕ) (found : Option Found) (columns : List Column) → found ≡ column_at (heads_of columns) name → Some (place, head) ≡ one_on found → IsLater place columns
  later_place place None columns is at = cc
  later_place place (Some found) columns is at =
      let same = same_found (place, head) (suc found.0, found.1) at in
      record { before = found.0; is = ap (λ f. f.0) same; there = ap (λ f. Some (found.0, f.1)) same ∙ is }

  -- a column stands at the place that is found,
  pub place_within : (columns : List Column) (place : ℕ) → Some (place, head) ≡ column_at (heads_of columns) name → place < length columns
  place_within [] place at = cc
  place_within (c ∷ cs) place at =
      elim (same_name name c.name) as (λ b. Some (place, head) ≡ cond b (Some (0, head_of c)) (one_on (column_at (heads_of cs) name)) → place < length (c ∷ cs)) [
        | true ↦ λ h. let first : place ≡ 0 = ap (λ (f : Found). f.0) (same_found (place, head) (0, head_of c) h) in omega (arith, first)
        | false ↦ λ h. let later = later_place place (column_at (heads_of cs) name) cs refl h in let within = place_within cs later.before later.there in omega (arith, within, later.is)
      ] at

  -- and it is the one that is looked up
  pub column_found : (columns : List Column) (place : ℕ) (column : Column) → Some (place, head) ≡ column_at (heads_of columns) name → column ≡ get_or columns place column → shown column ≡ column_under (map shown columns) name
  column_found [] place column at is = cc
  column_found (c ∷ cs) place column at is =
      elim (same_name name c.name) as (λ b. Some (place, head) ≡ cond b (Some (0, head_of c)) (one_on (column_at (heads_of cs) name)) → shown column ≡ cond b (shown c) (column_under (map shown cs) name)) [
        | true ↦ λ h. let first : place ≡ 0 = ap (λ (f : Found). f.0) (same_found (place, head) (0, head_of c) h) in ap shown (is ∙ ap (λ n. get_or (c ∷ cs) n column) first)
        | false ↦ λ h. let later = later_place place (column_at (heads_of cs) name) cs refl h in column_found cs later.before column later.there (is ∙ ap (λ n. get_or (c ∷ cs) n column) later.is)
      ] at

-- where nothing is found beside the first column nothing is found in later ones
none_before : (found : Option Found) → None ≡ one_on found → None ≡ found
none_before None at = refl
none_before (Some found) at = cc

-- a name of which no place is found is no column's
pub none_found : (columns : List Column) (name : Name) → None ≡ column_at (heads_of columns) name → is_among name (names_of (heads_of columns)) ≡ false
none_found [] name at = refl
none_found (c ∷ cs) name at =
    elim (same_name name c.name) as (λ b. None ≡ cond b (Some (0, head_of c)) (one_on (column_at (heads_of cs) name)) → (b || is_among name (names_of (heads_of cs))) ≡ false) [
      | true ↦ λ h. cc
      | false ↦ λ h. none_found cs name (none_before (column_at (heads_of cs) name) h)
    ] at

-- one more name is looked for
pub name_more : (columns : List Column) (names : List Name) (found new : List (Bor Column)) (i : ℕ) (name : Name) (own : Bor Column) → i < length names → name ≡ get_or names i name → map (λ column. shown column.now) found ≡ columns_named (map shown columns) (take i names) → new ≡ found ++ own ∷ [] → shown own.now ≡ column_under (map shown columns) name → map (λ column. shown column.now) new ≡ columns_named (map shown columns) (take (i + 1) names)
name_more columns names found new i name own within at so_far put is =
    mapped_more (λ (column : Bor Column). shown column.now) (column_under (map shown columns)) found new own names i name within so_far put is at

-- a name among those that stand has a place
pub never_missing : (columns : List Column) (names : List Name) (i : ℕ) (name : Name) → have_names (heads_of columns) names ≡ true → i < length names → name ≡ get_or names i name → None ≡ column_at (heads_of columns) name → ⊥
never_missing columns names i name all within at none =
    let test : Name → Bool = λ name. is_among name (names_of (heads_of columns)) in
    let apart = list_all_at test names i name within (ap test (sym at) ∙ none_found columns name none) in
    true≢false (sym all ∙ apart)

-- ---- columns that aren't of some names

-- whether the column isn't of these names
abbrev is_beside : List Name → Shown → Bool
is_beside names column = not (is_among column.0.0 names)

module _ (names : List Name) (columns : List Column) (i : ℕ) (column : Column) (within : i < length columns) (at : column ≡ get_or columns i column) (found : List (Bor Column)) (so_far : map (λ column. shown column.now) found ≡ filter (is_beside names) (map shown (take i columns))) where
  -- one more column is tested
  one_later : filter (is_beside names) (map shown (take (i + 1) columns)) ≡ filter (is_beside names) (map shown (take i columns)) ++ filter (is_beside names) (shown column ∷ [])
  one_later =
      let next = ap (map shown) (take_more columns i column within) ∙ map-append shown (take i columns) (get_or columns i column ∷ []) ∙ ap (λ c. map shown (take i columns) ++ shown c ∷ []) (sym at) in
      ap (filter (is_beside names)) next ∙ filter-append (is_beside names) (map shown (take i columns)) (shown column ∷ [])

  -- one of another name is put behind the others
  pub beside_more : (new : List (Bor Column)) (own : Bor Column) → own.now ≡ column → is_among column.name names ≡ false → new ≡ found ++ own ∷ [] → map (λ column. shown column.now) new ≡ filter (is_beside names) (map shown (take (i + 1) columns))
  beside_more new own is other put =
      ap (map (λ (column : Bor Column). shown column.now)) put ∙ map-append (λ (column : Bor Column). shown column.now) found (own ∷ []) ∙ (λ k. so_far k ++ shown (is k) ∷ [])
      ∙ ap (λ b. filter (is_beside names) (map shown (take i columns)) ++ cond (not b) (shown column ∷ []) []) (sym other) ∙ sym one_later

  -- one of these names is passed by
  pub beside_passed : is_among column.name names ≡ true → map (λ column. shown column.now) found ≡ filter (is_beside names) (map shown (take (i + 1) columns))
  beside_passed among =
      so_far ∙ sym (append-nil (filter (is_beside names) (map shown (take i columns)))) ∙ ap (λ b. filter (is_beside names) (map shown (take i columns)) ++ cond (not b) (shown column ∷ []) []) (sym among) ∙ sym one_later
