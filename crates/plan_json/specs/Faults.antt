-- Faults of a value that is to be a query.
-- A place in the value asks for a form. A value can break the form itself, and it asks for forms of
-- its parts. So a fault stands at the end of a path of such parts.
use Rattle.std.specs.Prelude.{◌≡◌, ℕ, List, [], ◌∷◌, ◌==◌, length, slice_get, Bool, true, false, not, ◌&&◌, ◌||◌, Option, Some, None, option_map, option_and_then, is_some, codes, nat_lt, if◌then◌else◌}
use Rattle.std.specs.Option.{option_map_or}
use Rattle.std.specs.Str.{bytes_eq}
use Rattle.serde_json.specs.Data.{Data, Items}
use Rattle.serde_json.specs.Events.{items_len}
use Rattle.serde_json.specs.Find.{as_str, as_array, as_bool, as_null, at, get_item}
use Rattle.plan_types.specs.Schemas.{Name, is_among, repeats}
use Rattle.plan_types.specs.Types.{Ty, is_counted}
use Rattle.plan_json.specs.Forms.{Asked, a_form, leaf, many, order, optional, order_items, Places, single, listed, asks, key_named, row_named, type_rows, excluded_rows}
use Rattle.plan_json.specs.Leaves.{index_of, keep_of, natural_of, optional_natural_of, optional_text_of, statistic_of, text_of, type_named, type_of, unit_of, literal_of, number_text_of, counted_of, number_of, operator_of, method_of, function_of, mode_of, column_name, table_name, table_limit}
use Rattle.plan_json.specs.Looking.{both, is_float, only_member, two_members, two_items, some_of, first_items}
use Rattle.plan_json.specs.declared.forms.Kind.{Kind}
use Rattle.plan_json.specs.declared.forms.Kind.TheVariants as kinds
use Rattle.plan_json.specs.declared.forms.Leaf.{Leaf}
use Rattle.plan_json.specs.declared.forms.Leaf.TheVariants as leaves
use Rattle.plan_json.specs.declared.forms.SmallLeaf.{SmallLeaf}
use Rattle.plan_json.specs.declared.forms.SmallLeaf.TheVariants as smalls
use Rattle.plan_json.specs.declared.forms.Writing.{Writing}
use Rattle.plan_json.specs.declared.forms.Writing.TheVariants as writings
use Rattle.plan_json.specs.declared.forms.TypeKey.{TypeKey}
use Rattle.plan_json.specs.declared.forms.TypeKey.TheVariants as types
use Rattle.plan_json.specs.declared.forms.ExcludedKey.{ExcludedKey}
use Rattle.plan_json.specs.declared.forms.ExcludedKey.TheVariants as excludes

pub data FaultKind : Type 0 where
  -- the value breaks the form
  BadShape : FaultKind
  -- it does, and it is a number that is held neither as an i64 nor as a u64
  BadFloat : FaultKind
  -- the value names a table that isn't declared, or that is declared again
  BadName : FaultKind

-- a step from a value to a part of it
pub data Step : Type 0 where
  -- the value of a key
  key : List ℕ → Step
  -- the item of a number
  number : ℕ → Step

abbrev pub Path : Type 0
Path = List Step

-- What a place asks for. A table and its name come with the names of the tables before it, plans and what
-- stands under a key with those of all tables, and a number with the type that is written beside it.
pub data Form : Type 0 where
  a_query table_list column_list field_list a_column a_type a_unit a_text : Form
  a_table a_new_name a_scan : List Name → Form
  a_literal a_number_text a_typed_literal a_counted_type an_operator a_method a_function a_mode nothing_form flag_form an_index a_natural an_optional_natural an_optional_text a_keep a_statistic an_excluded : Form
  a_number_of : Ty → Form
  -- an object of one key, which names a form of the kind
  keyed_form : List Name → Kind → Form
  -- a list of any number of these
  list_of : List Name → Asked → Form
  -- a list of exactly these
  items_of : List Name → List Asked → Form
  -- null, or a list of an expression and two flags
  order_form : List Name → Form
  -- null, or a list of any number of these
  optional_form : List Name → Asked → Form

-- a part of a value: what its place asks for, and the part itself
pub record Part : Type 0 where
  pub form : Form
  pub value : Data

abbrev pub part : Form → Data → Part
part form value = record { form = form; value = value }

-- ---- forms that are named by a key

-- what a type's key asks of its value
abbrev pub type_form : TypeKey → Form
type_form types.Datetime = a_unit
type_form types.Duration = a_unit
type_form types.List = a_type
type_form types.Struct = field_list

abbrev pub type_key_form : List ℕ → Option Form
type_key_form word = option_map (λ row. type_form row.1) (row_named type_rows word)

-- what the key asks of its value, of what an exclude leaves out
abbrev pub excluded_form : ExcludedKey → Form
excluded_form excludes.Name = a_text
excluded_form excludes.Dtype = a_type

abbrev pub excluded_key_form : List ℕ → Option Form
excluded_key_form word = option_map (λ row. excluded_form row.1) (row_named excluded_rows word)

-- a literal that is written so
abbrev pub literal_form : Writing → Form
literal_form writings.AsIs = a_literal
literal_form writings.Digits = a_number_text
literal_form writings.Typed = a_typed_literal

-- what needs no box
abbrev pub small_form : SmallLeaf → Form
small_form smalls.Operator = an_operator
small_form smalls.Method = a_method
small_form smalls.Mode = a_mode
small_form smalls.Nothing = nothing_form
small_form smalls.Flag = flag_form
small_form smalls.Index = an_index
small_form smalls.Natural = a_natural
small_form smalls.OptionalNatural = an_optional_natural
small_form smalls.Keep = a_keep
small_form smalls.Statistic = a_statistic

-- what has no forms
abbrev pub leaf_form : List Name → Leaf → Form
leaf_form names leaves.Name = a_text
leaf_form names (leaves.Literal how) = literal_form how
leaf_form names leaves.Dtype = a_type
leaf_form names leaves.Table = a_scan names
leaf_form names leaves.Columns = column_list
leaf_form names leaves.Excluded = an_excluded
leaf_form names leaves.Function = a_function
leaf_form names leaves.OptionalName = an_optional_text
leaf_form names (leaves.Small which) = small_form which

abbrev pub asked_form : List Name → Asked → Form
asked_form names (a_form kind) = keyed_form names kind
asked_form names (leaf which) = leaf_form names which
asked_form names (many a) = list_of names a
asked_form names order = order_form names
asked_form names (optional a) = optional_form names a

abbrev pub places_form : List Name → Places → Form
places_form names (single a) = asked_form names a
places_form names (listed ps) = items_of names ps

abbrev pub an_expression : Form
an_expression = keyed_form [] kinds.Expression

abbrev pub a_plan : List Name → Form
a_plan names = keyed_form names kinds.Plan

-- what the only key of a form of that kind asks of its value
abbrev pub key_form : List Name → Kind → List ℕ → Option Form
key_form names kind word = option_map (λ row. places_form names (asks row.1)) (key_named kind word)

-- the word of an object of one key that names a form, and the value of that key as this form
abbrev pub keyed_part : (List ℕ → Option Form) → Data → Option (List ℕ × Part)
keyed_part form_of d = option_and_then (λ m. option_map (λ form. (m.0, part form m.1)) (form_of m.0)) (only_member d)

-- ---- faults of the value itself

-- what it is called that the value breaks its form
abbrev pub shape_fault : Data → FaultKind
shape_fault d = if is_float d then BadFloat else BadShape

abbrev pub unless : FaultKind → Bool → Option FaultKind
unless kind true = None
unless kind false = Some kind

-- a value must be a text, and the text must pass the test
abbrev pub name_fault : (Name → Bool) → Data → Option FaultKind
name_fault test d = option_map_or (λ name. unless BadName (test name)) (text_of d) (Some (shape_fault d))

-- whether a value is a list that passes the test
abbrev pub is_list : (Items → Bool) → Data → Bool
is_list test d = option_map_or test (as_array d) false

-- whether a value is the name of a type without parts
abbrev pub is_type_name : Data → Bool
is_type_name d = is_some (option_and_then type_named (as_str d))

-- whether it has the shape of a type, whatever its parts are
abbrev pub has_type_shape : Data → Bool
has_type_shape d = is_type_name d || is_some (keyed_part type_key_form d)

-- whether it is no type of another kind than those of integers and of time
abbrev pub may_be_counted : Data → Bool
may_be_counted d = option_map_or is_counted (type_of d) true

-- whether a value itself has the shape of the form, whatever its parts are
abbrev pub has_shape : Form → Data → Bool
has_shape a_query d = is_some (two_members (codes "tables") (codes "plan") d)
has_shape table_list d = is_list (λ items. nat_lt (items_len items) table_limit) d
has_shape column_list d = is_list (λ items. not (repeats (some_of column_name items))) d
has_shape field_list d = is_list (λ items. true) d
has_shape a_column d = is_some (two_items d)
has_shape a_type d = has_type_shape d
has_shape a_unit d = is_some (unit_of d)
has_shape a_text d = is_some (text_of d)
has_shape (a_table before) d = is_some (two_members (codes "name") (codes "columns") d)
has_shape (a_new_name before) d = is_some (text_of d)
has_shape (a_scan tables) d = is_some (text_of d)
has_shape a_literal d = is_some (literal_of d)
has_shape a_number_text d = is_some (number_text_of d)
has_shape a_typed_literal d = is_some (two_items d)
has_shape a_counted_type d = has_type_shape d && may_be_counted d
has_shape (a_number_of type) d = is_some (number_of type d)
has_shape an_operator d = is_some (operator_of d)
has_shape a_method d = is_some (method_of d)
has_shape a_function d = is_some (function_of d)
has_shape a_mode d = is_some (mode_of d)
has_shape nothing_form d = is_some (as_null d)
has_shape flag_form d = is_some (as_bool d)
has_shape an_index d = is_some (index_of d)
has_shape a_natural d = is_some (natural_of d)
has_shape an_optional_natural d = is_some (optional_natural_of d)
has_shape an_optional_text d = is_some (optional_text_of d)
has_shape a_keep d = is_some (keep_of d)
has_shape a_statistic d = is_some (statistic_of d)
has_shape an_excluded d = is_some (keyed_part excluded_key_form d)
has_shape (keyed_form names kind) d = is_some (keyed_part (key_form names kind) d)
has_shape (list_of names a) d = is_list (λ items. true) d
has_shape (items_of names ps) d = is_list (λ items. items_len items == length ps) d
has_shape (order_form names) d = is_some (as_null d) || is_list (λ items. items_len items == length order_items) d
has_shape (optional_form names a) d = is_some (as_null d) || is_list (λ items. true) d

-- how a value itself breaks the form
abbrev pub own_fault : Form → Data → Option FaultKind
own_fault (a_new_name before) d = name_fault (λ name. not (is_among name before)) d
own_fault (a_scan tables) d = name_fault (λ name. is_among name tables) d
own_fault form d = unless (shape_fault d) (has_shape form d)

-- ---- parts of a value

-- the names that the tables of a list give themselves
abbrev pub declared_names : Data → List Name
declared_names d = option_map_or (some_of table_name) (as_array d) []

-- a part that stands at one of two steps
abbrev pub either_part : Bool → Bool → Part → Part → Option Part
either_part is_first is_second first second = if is_first then Some first else (if is_second then Some second else None)

abbrev pub query_part : List ℕ → Data × Data → Option Part
query_part word pair =
    either_part (bytes_eq word (codes "tables")) (bytes_eq word (codes "plan")) (part table_list pair.0) (part (a_plan (declared_names pair.0)) pair.1)

abbrev pub table_part : List Name → List ℕ → Data × Data → Option Part
table_part before word pair =
    either_part (bytes_eq word (codes "name")) (bytes_eq word (codes "columns")) (part (a_new_name before) pair.0) (part column_list pair.1)

abbrev pub column_part : ℕ → Data × Data → Option Part
column_part n pair = either_part (n == 0) (n == 1) (part a_text pair.0) (part a_type pair.1)

-- the number has a place only beside a type that it may be of
abbrev pub typed_part : ℕ → Data × Data → Option Part
typed_part n pair =
    if n == 0 then Some (part a_counted_type pair.0) else (
    if n == 1 then option_map (λ type. part (a_number_of type) pair.1) (counted_of pair.0) else None)

-- a table behind those before it
abbrev pub table_item : ℕ → Items → Option Part
table_item n items = option_map (part (a_table (some_of table_name (first_items n items)))) (get_item n items)

-- an item of a list of exactly these
abbrev pub item_part : List Name → List Asked → ℕ → Items → Option Part
item_part names ps n items =
    if items_len items == length ps then option_map (λ p. part (asked_form names p.0) p.1) (both (slice_get ps n) (get_item n items)) else None

-- the part at the key
abbrev pub part_if : List ℕ → List ℕ × Part → Option Part
part_if word found = if bytes_eq word found.0 then Some found.1 else None

-- the part at a step from a value that is to be of some form, as far as it has one there
abbrev pub part_of : Form → Step → Data → Option Part
part_of a_query (key word) d = option_and_then (query_part word) (two_members (codes "tables") (codes "plan") d)
part_of table_list (number n) d = option_and_then (table_item n) (as_array d)
part_of column_list (number n) d = option_map (part a_column) (at n d)
part_of field_list (number n) d = option_map (part a_column) (at n d)
part_of a_column (number n) d = option_and_then (column_part n) (two_items d)
part_of a_type (key word) d = option_and_then (part_if word) (keyed_part type_key_form d)
part_of (a_table before) (key word) d = option_and_then (table_part before word) (two_members (codes "name") (codes "columns") d)
part_of a_typed_literal (number n) d = option_and_then (typed_part n) (two_items d)
part_of a_counted_type (key word) d = option_and_then (part_if word) (keyed_part type_key_form d)
part_of an_excluded (key word) d = option_and_then (part_if word) (keyed_part excluded_key_form d)
part_of (keyed_form names kind) (key word) d = option_and_then (part_if word) (keyed_part (key_form names kind) d)
part_of (list_of names a) (number n) d = option_map (part (asked_form names a)) (at n d)
part_of (items_of names ps) (number n) d = option_and_then (item_part names ps n) (as_array d)
part_of (order_form names) (number n) d = option_and_then (item_part names order_items n) (as_array d)
part_of (optional_form names a) (number n) d = option_map (part (asked_form names a)) (at n d)
part_of _ _ d = None

-- ---- faults along a path

-- how the part at the path's end breaks its form
abbrev pub fault_at : Form → Data → Path → Option FaultKind
fault_at form d [] = own_fault form d
fault_at form d (step ∷ path) = option_and_then (λ below. fault_at below.form below.value path) (part_of form step d)

-- it breaks it in this way
abbrev pub IsBadAt : Form → Data → FaultKind → Path → Type 0
IsBadAt form d kind path = fault_at form d path ≡ Some kind
