-- Markers, and the names for which they stand.
-- A marker stands for columns of a schema: for all, for those of a list of names, of some types, or at places, for what
-- another marker stands for but some, or for what a selector makes. The names of a group_by's keys are left out of all
-- markers but lists of names and places.
use Rattle.std.specs.Prelude.{ℤ, pos, negsuc, List, [], ◌∷◌, ◌++◌, length, Bool, false, not, filter, slice_get, Result, Ok, Err}
use Rattle.std.specs.List.{list_any}
use Rattle.std.specs.Option.{ok_or, option_map_or}
use Rattle.plan_types.specs.Types.{Ty, same_type}
use Rattle.plan_types.specs.Schemas.{Name, Columns, same_name, type_at, is_among, names_of}
use Rattle.plan_types.specs.declared.error.ErrorKind.{ErrorKind}
use Rattle.plan_types.specs.declared.error.ErrorKind.TheVariants.{ColumnNotFound, InvalidOperation}
use Rattle.plan_dsl.specs.Trees.{node, no_more, more}
use Rattle.plan_dsl.specs.Ops.{ColumnOp}
use Rattle.plan_dsl.specs.Slices.{slice_start}
use Rattle.plan_dsl.specs.Refusals.{then_ok, each_ok, lists_joined}
use Rattle.plan_dsl.specs.Sources.{Excluded, ExcludedName, ExcludedType, SetRule, Add, Sub, Intersect, ExclusiveOr, Plain, WildcardOp, ColumnsOp, DtypeColumnOp, IndexColumnOp, NthOp, ExcludeOp, SelectorOp, RootOp, SetOp, Source}

-- ---- lists of names

-- names without those of another list
abbrev pub without : List Name → List Name → List Name
without left_out names = filter (λ name. not (is_among name left_out)) names

-- each name once, at its first place
abbrev pub once : List Name → List Name
once [] = []
once (name ∷ names) = name ∷ without (name ∷ []) (once names)

-- the columns of which the type is one of some
abbrev pub names_of_types : Columns → List Ty → List Name
names_of_types schema types = names_of (filter (λ column. list_any (same_type column.1) types) schema)

abbrev pub name_from : List Name → ℤ → Result Name ErrorKind
name_from names (pos place) = ok_or (slice_get names place) ColumnNotFound
name_from names (negsuc before) = Err ColumnNotFound

-- the name at a place: one below 0 counts from the end
abbrev pub name_at : List Name → ℤ → Result Name ErrorKind
name_at names place = name_from names (slice_start place (length names))

-- whether a name is left out: a name that no column has is of no type
abbrev pub excludes : Columns → Name → Excluded → Bool
excludes schema name (ExcludedName other) = same_name name other
excludes schema name (ExcludedType type) = option_map_or (same_type type) (type_at schema name) false

abbrev pub without_excluded : Columns → List Excluded → List Name → List Name
without_excluded schema excluded names = filter (λ name. not (list_any (excludes schema name) excluded)) names

-- a selector's list of two: what is in either, the second's new names behind the first's; what is in the first alone; in
-- both; in one alone
abbrev pub set_of : SetRule → List Name → List Name → List Name
set_of Add first second = first ++ without first second
set_of Sub first second = without second first
set_of Intersect first second = filter (λ name. is_among name second) first
set_of ExclusiveOr first second = without second first ++ without first second

-- ---- markers

abbrev mutual
  -- the names for which a marker stands, in order
  pub marker_names : List Name → Columns → Source → Result (List Name) ErrorKind
  marker_names keys schema (node WildcardOp no_more) = Ok (without keys (names_of schema))
  marker_names keys schema (node (ColumnsOp names) no_more) = Ok names
  marker_names keys schema (node (DtypeColumnOp types) no_more) = Ok (without keys (names_of_types schema types))
  marker_names keys schema (node (IndexColumnOp places) no_more) = each_ok (name_at (names_of schema)) places
  marker_names keys schema (node (NthOp place) no_more) = each_ok (name_at (names_of schema)) (place ∷ [])
  marker_names keys schema (node (ExcludeOp excluded) (more marker no_more)) =
      then_ok (marker_names keys schema marker) (λ names. Ok (without keys (without_excluded schema excluded names)))
  marker_names keys schema (node SelectorOp (more selector no_more)) =
      then_ok (selector_names keys schema selector) (λ names. Ok (once (without keys names)))
  marker_names keys schema tree = Err InvalidOperation

  -- the names that a selector makes: of a root those of its column or marker, and of two selectors one list by their rule
  pub selector_names : List Name → Columns → Source → Result (List Name) ErrorKind
  selector_names keys schema (node RootOp (more (node (Plain (ColumnOp name)) no_more) no_more)) = Ok (name ∷ [])
  selector_names keys schema (node RootOp (more marker no_more)) = marker_names keys schema marker
  selector_names keys schema (node (SetOp rule) (more first (more second no_more))) =
      then_ok (selector_names keys schema first) (λ names. then_ok (selector_names keys schema second) (λ others. Ok (set_of rule names others)))
  selector_names keys schema tree = Err InvalidOperation

-- the names that selectors make, each once
abbrev pub names_of_selectors : Columns → List Source → Result (List Name) (List ErrorKind)
names_of_selectors schema selectors = then_ok (lists_joined (selector_names [] schema) selectors) (λ names. Ok (once names))
