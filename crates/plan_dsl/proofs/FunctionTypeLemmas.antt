-- Schemas of what functions make: columns by their numbers, whose types are folded, columns under names, and new names.
use Rattle.std.proofs.Common.{◌≡◌, ◌==◌, ℕ, ◌<◌, ◌≤◌, ◌+◌, List, [], ◌∷◌, ◌++◌, codes, drop, filter, get_or, is_some, length, slice_get, Option, Some, None, Bool, true, false, cond, not, unwrap_or, Bor, refl, sym, ap, ◌∙◌, append_assoc, arith}
use Rattle.std.specs.Prelude.{is_none}
use Rattle.std.specs.Map.{lookup}
use Rattle.std.specs.Option.{option_map, option_and_then}
use Rattle.std.specs.Str.{chars}
use Rattle.std.proofs.lemmas.Cmp.{nat_eq_equiv, nat_list_eq_equiv}
use Rattle.std.proofs.lemmas.List.{drop_all}
use Rattle.std.proofs.lemmas.Option.{slice_get_within, get_or_from_slice_get}
use Rattle.std.proofs.lemmas.Str.{chars-encodes}
use Rattle.plan_types.specs.Types.{Ty, NullType, TextType}
use Rattle.plan_types.specs.Schemas.{Name, Columns, same_name, type_at, is_among, names_of, IsNewName, HasDistinctNames}
use Rattle.plan_types.specs.SchemaCalls.{types_of}
use Rattle.plan_types.specs.Supertypes.{supertype}
use Rattle.plan_types.specs.TypeOrder.{folded_from, folded_type}
use Rattle.plan_types.specs.declared.error.ErrorKind.TheVariants.{SchemaMismatch, InvalidOperation}
use Rattle.plan_types.proofs.ListLemmas.{item_left, pair_left}
use Rattle.plan_types.proofs.SchemaLemmas.{IsNewName-head, IsNewName-tail}
use Rattle.plan_dsl.specs.Drops.{columns_but, have_names}
use Rattle.plan_dsl.specs.FunctionSchemas.{found_name}
use Rattle.plan_dsl.specs.Refusals.{kind_where}
use Rattle.plan_dsl.specs.TableRules.{columns_under, distinct_kinds, later_name, new_name, rename_kinds, renamed_columns, unpivot_kinds, unpivoted_columns, value_columns, value_name, value_type, variable_name}
use Rattle.plan_dsl.proofs.FunctionSchemaLemmas.{columns_put, names_end, names_more, where_there}
use Rattle.plan_dsl.proofs.UnpivotLemmas.{names_under}

-- ---- columns by their numbers

-- the types of the columns but those of some names are folded one by one
module _ (names : List Name) (schema : Columns) (i : ℕ) (column : Name × Ty) (at : slice_get schema i ≡ Some column) (found : Ty) (whole : Option Ty) (so_far : folded_from found (types_of (columns_but names (drop i schema))) ≡ whole) where
  abbrev rest : Columns
  rest = columns_but names (drop (i + 1) schema)

  column_left : drop i schema ≡ column ∷ drop (i + 1) schema
  column_left = item_left schema i column column (slice_get_within schema i column at) (sym (get_or_from_slice_get schema i column column at))

  from_here : (b : Bool) → is_among column.0 names ≡ b → folded_from found (types_of (cond (not b) (column ∷ rest) rest)) ≡ whole
  from_here b among =
      sym (ap (λ l. folded_from found (types_of (columns_but names l))) column_left ∙ ap (λ b. folded_from found (types_of (cond (not b) (column ∷ rest) rest))) among) ∙ so_far

  pub beside_next : (common : Option Ty) → is_among column.0 names ≡ false → common ≡ supertype found column.1 → option_and_then (λ common. folded_from common (types_of rest)) common ≡ whole
  beside_next common apart is = ap (option_and_then (λ common. folded_from common (types_of rest))) is ∙ from_here false apart

  pub beside_passed : is_among column.0 names ≡ true → folded_from found (types_of rest) ≡ whole
  beside_passed among = from_here true among

-- ---- columns under names of their own

new_kept : (test : Name × Ty → Bool) (columns : Columns) (name : Name) → IsNewName columns name → IsNewName (filter test columns) name
new_kept test [] name new = refl
new_kept test (c ∷ cs) name new =
    let later = new_kept test cs name (IsNewName-tail c cs name new) in
    elim (test c) as (λ b. IsNewName (cond b (c ∷ filter test cs) (filter test cs)) name) [ true ↦ ap (λ b. cond b (Some c.1) (type_at (filter test cs) name)) (IsNewName-head c cs name new) ∙ later | false ↦ later ]

-- columns under other names than the first one's
under_later : (c : Name × Ty) (cs others : Columns) → IsNewName others c.0 → columns_under (c ∷ cs) (names_of others) ≡ columns_under cs (names_of others)
under_later c cs [] new = refl
under_later c cs (d ∷ ds) new =
    let apart : same_name d.0 c.0 ≡ false = nat_list_eq_equiv.symm d.0 c.0 ∙ IsNewName-head d ds c.0 new in
    ap (λ b. (d.0, unwrap_or (cond b (Some c.1) (type_at cs d.0)) NullType) ∷ columns_under (c ∷ cs) (names_of ds)) apart
    ∙ ap (λ l. (d.0, unwrap_or (type_at cs d.0) NullType) ∷ l) (under_later c cs ds (IsNewName-tail d ds c.0 new))

-- some columns are those under their names
pub under_own : (test : Name × Ty → Bool) (columns : Columns) → HasDistinctNames columns → columns_under columns (names_of (filter test columns)) ≡ filter test columns
under_own test [] distinct = refl
under_own test (c ∷ cs) distinct =
    let later = under_later c cs (filter test cs) (new_kept test cs c.0 distinct.0) ∙ under_own test cs distinct.1 in
    elim (test c) as (λ b. columns_under (c ∷ cs) (names_of (cond b (c ∷ filter test cs) (filter test cs))) ≡ cond b (c ∷ filter test cs) (filter test cs)) [ true ↦ ap (λ b. (c.0, unwrap_or (cond b (Some c.1) (type_at cs c.0)) NullType) ∷ columns_under (c ∷ cs) (names_of (filter test cs))) (nat_list_eq_equiv.refl c.0) ∙ ap (λ l. c ∷ l) later | false ↦ later ]

-- of no columns the values are those of all that aren't in the index
pub value_of_none : (schema : Columns) (on index : List Name) (found : Option Ty) → HasDistinctNames schema → (length on == 0) ≡ true → found ≡ folded_type (types_of (columns_but index schema)) → found ≡ folded_type (types_of (columns_under schema (value_columns schema on index)))
value_of_none schema [] index found distinct none is =
    is ∙ sym (ap (λ l. folded_type (types_of l)) (under_own (λ column. not (is_among column.0 index)) schema distinct))
value_of_none schema (name ∷ on) index found distinct none is = absurd (grind arith)

-- ---- new names

later_nothing : (name : Option Name) → later_name None name ≡ name
later_nothing None = refl
later_nothing (Some name) = refl

later_grouped : (a b c : Option Name) → later_name a (later_name b c) ≡ later_name (later_name a b) c
later_grouped a b None = refl
later_grouped a b (Some name) = refl

shown_later : (b : Bool) (value : Bor Name) (before : Option (Bor Name)) → option_map (λ (own : Bor Name). own.now) (cond b (Some value) before) ≡ later_name (option_map (λ own. own.now) before) (cond b (Some value.now) None)
shown_later true value before = refl
shown_later false value before = refl

-- a name that is put in counts more than what was there
found_put : (entries new : List (Bor Name × Bor Name)) (key : Name) (value : Bor Name) → ((q : Bor Name) → lookup (λ k. same_name q.now k.now) new ≡ cond (same_name key q.now) (Some value) (lookup (λ k. same_name q.now k.now) entries)) → (name : Name) → found_name new name ≡ later_name (found_name entries name) (cond (same_name name key) (Some value.now) None)
found_put entries new key value put name =
    ap (option_map (λ own. own.now)) (put (record { ref_ptr = value.ref_ptr; now = name }))
    ∙ shown_later (same_name key name) value (lookup (λ k. same_name name k.now) entries)
    ∙ ap (λ b. later_name (found_name entries name) (cond b (Some value.now) None)) (nat_list_eq_equiv.symm key name)

module _ (existing own : List Name) where
  -- the new names of a place and those behind it, over what was found before
  abbrev pub NamesFrom : ℕ → List (Bor Name × Bor Name) → Type 0
  NamesFrom i entries = (name : Name) → later_name (found_name entries name) (new_name (drop i existing) (drop i own) name) ≡ new_name existing own name

  pub names_start : NamesFrom 0 []
  names_start name = later_nothing (new_name existing own name)

  pub names_step : (i : ℕ) (entries new : List (Bor Name × Bor Name)) (key : Name) (value : Bor Name) → i < length existing → i < length own → key ≡ get_or existing i key → value.now ≡ get_or own i value.now → ((q : Bor Name) → lookup (λ k. same_name q.now k.now) new ≡ cond (same_name key q.now) (Some value) (lookup (λ k. same_name q.now k.now) entries)) → NamesFrom i entries → NamesFrom (i + 1) new
  names_step i entries new key value within also is_key is_value put so_far name =
      let left = pair_left (λ xs ys. new_name xs ys name) existing own i key key value.now value.now within also is_key is_value in
      let rest = new_name (drop (i + 1) existing) (drop (i + 1) own) name in
      ap (λ found. later_name found rest) (found_put entries new key value put name)
      ∙ sym (later_grouped (found_name entries name) (cond (same_name name key) (Some value.now) None) rest)
      ∙ ap (later_name (found_name entries name)) (sym left)
      ∙ so_far name

  pub names_ended : (i : ℕ) (entries : List (Bor Name × Bor Name)) → length existing ≤ i → NamesFrom i entries → (name : Name) → found_name entries name ≡ new_name existing own name
  names_ended i entries past so_far name =
      sym (ap (λ l. later_name (found_name entries name) (new_name l (drop i own) name)) (drop_all i existing past)) ∙ so_far name

-- a name that was looked for in the map
module _ (entries : List (Bor Name × Bor Name)) (existing new : List Name) (says : (name : Name) → found_name entries name ≡ new_name existing new name) (name : Name) where
  pub own_found : (own : Bor Name) → Some own ≡ lookup (λ key. same_name name key.now) entries → own.now ≡ unwrap_or (new_name existing new name) name
  own_found own at = ap (λ o. unwrap_or o name) (ap (option_map (λ (value : Bor Name). value.now)) at ∙ says name)

  pub own_kept : None ≡ lookup (λ key. same_name name key.now) entries → name ≡ unwrap_or (new_name existing new name) name
  own_kept at = ap (λ o. unwrap_or o name) (ap (option_map (λ (value : Bor Name). value.now)) at ∙ says name)

-- ---- columns that are put behind each other

-- one more column is put behind others under its new name
pub renamed_more : (existing new : List Name) (done made whole all : Columns) (i : ℕ) (column : Name × Ty) (own : Name) → slice_get whole i ≡ Some column → own ≡ unwrap_or (new_name existing new column.0) column.0 → made ≡ done ++ (own, column.1) ∷ [] → done ++ renamed_columns existing new (drop i whole) ≡ all → made ++ renamed_columns existing new (drop (i + 1) whole) ≡ all
renamed_more existing new done made whole all i column own at is =
    columns_put (renamed_columns existing new) ((own, column.1) ∷ []) done made whole all i column at (ap (λ n. (n, column.1) ∷ renamed_columns existing new (drop (i + 1) whole)) (sym is))

-- columns under names that stand, by the name of a number
module _ (schema : Columns) (names : List Name) (i : ℕ) (name : Name) (within : i < length names) (at : name ≡ get_or names i name) where
  abbrev left_names : List Name
  left_names = drop i names

  pub no_such_name : None ≡ type_at schema name → have_names schema left_names ≡ true → false ≡ true
  no_such_name absent all = names_end schema left_names (drop (i + 1) names) name true (item_left names i name name within at) (ap is_some (sym absent)) all

  pub fields_more : (own new : Columns) (type : Ty) → Some type ≡ type_at schema name → new ≡ own ++ (name, type) ∷ [] → (own ++ columns_under schema left_names ≡ columns_under schema names) × (have_names schema left_names ≡ true) → (new ++ columns_under schema (drop (i + 1) names) ≡ columns_under schema names) × (have_names schema (drop (i + 1) names) ≡ true)
  fields_more own new type there put so_far =
      let left = item_left names i name name within at in
      let rest = columns_under schema (drop (i + 1) names) in
      let first = ap (λ l. own ++ columns_under schema l) left ∙ ap (λ o. own ++ (name, unwrap_or o NullType) ∷ rest) (sym there) in
      (ap (λ l. l ++ rest) put ∙ append_assoc own ((name, type) ∷ []) rest ∙ sym first ∙ so_far.0, names_more schema left_names (drop (i + 1) names) name true left (ap is_some (sym there)) so_far.1)

variable_characters : chars (codes "variable") ≡ codes "variable"
unfolding lib.Utf8.encode
variable_characters = chars-encodes (codes "variable") refl

value_characters : chars (codes "value") ≡ codes "value"
unfolding lib.Utf8.encode
value_characters = chars-encodes (codes "value") refl

-- the two columns of an unpivot
pub both_behind : (own front behind : Columns) (variable value : Name) (type : Ty) (index : Columns) (named valued : Option Name) → variable ≡ unwrap_or named (chars (codes "variable")) → value ≡ unwrap_or valued (chars (codes "value")) → own ≡ index → front ≡ own ++ (variable, TextType) ∷ [] → behind ≡ front ++ (value, type) ∷ [] → behind ≡ index ++ (variable_name named, TextType) ∷ (value_name valued, type) ∷ []
both_behind own front behind variable value type index named valued is_variable is_value is_index put also =
    also
    ∙ ap (λ l. l ++ (value, type) ∷ []) (put ∙ ap (λ l. l ++ (variable, TextType) ∷ []) is_index)
    ∙ append_assoc index ((variable, TextType) ∷ []) ((value, type) ∷ [])
    ∙ ap (λ n. index ++ (n, TextType) ∷ (value, type) ∷ []) (is_variable ∙ ap (unwrap_or named) variable_characters)
    ∙ ap (λ n. index ++ (variable_name named, TextType) ∷ (n, type) ∷ []) (is_value ∙ ap (unwrap_or valued) value_characters)

-- ---- rules

-- of a rename of as many names as there are new ones it is asked that the names that it makes are distinct
pub renamed_kinds : (schema : Columns) (existing new : List Name) → length existing ≡ length new → rename_kinds schema existing new ≡ distinct_kinds (names_of (renamed_columns existing new schema))
renamed_kinds schema existing new even =
    let as_many : (length existing == length new) ≡ true = ap (λ n. length existing == n) (sym even) ∙ nat_eq_equiv.refl (length existing) in
    ap (λ b. cond b (distinct_kinds (names_of (renamed_columns existing new schema))) (InvalidOperation ∷ [])) as_many

-- and so of an unpivot of names that stand, whose values have a common type
module _ (schema : Columns) (on index : List Name) (variable value : Option Name) (type : Ty) (common : Some type ≡ value_type schema on index) where
  abbrev unpivoted : Columns
  unpivoted = columns_under schema index ++ (variable_name variable, TextType) ∷ (value_name value, type) ∷ []

  pub unpivoted_kinds : have_names schema (on ++ index) ≡ true → unpivot_kinds schema on index variable value ≡ distinct_kinds (names_of unpivoted)
  unpivoted_kinds stand =
      let others : Columns = (variable_name variable, TextType) ∷ (value_name value, type) ∷ [] in
      where_there schema (on ++ index) _ stand
      ∙ ap (λ o. kind_where (is_none o) SchemaMismatch ++ distinct_kinds (index ++ names_of others)) (sym common)
      ∙ ap distinct_kinds (sym (names_under schema index others))

  pub unpivot_makes : unpivoted_columns schema on index variable value ≡ unpivoted
  unpivot_makes = ap (λ o. columns_under schema index ++ (variable_name variable, TextType) ∷ (value_name value, unwrap_or o NullType) ∷ []) (sym common)
