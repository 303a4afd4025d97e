-- Expansion of expressions.
-- First each input of a horizontal is expanded by itself, and what it is expanded to stands in its place. Then all markers
-- of an expression must be one, and it is repeated with each name for which they stand, put in place of all of them. A
-- struct's field at a place becomes one of a name. Last a renaming form at its top becomes an alias, and is refused below.
-- What comes out is a list of expressions of plans' ops alone, by its type.
use Rattle.std.specs.Prelude.{ℤ, pos, negsuc, length, slice_get, List, [], ◌∷◌, ◌++◌, map, Option, Some, None, Bool, true, false, Result, Ok, Err, if◌then◌else◌}
use Rattle.std.specs.List.{flat_map, list_all}
use Rattle.std.specs.Option.{ok_or, option_or}
use Rattle.plan_types.specs.Types.{Ty, StructType, Fields, no_field, with_field}
use Rattle.plan_types.specs.Schemas.{Name, Columns, type_at}
use Rattle.plan_types.specs.declared.error.ErrorKind.{ErrorKind}
use Rattle.plan_types.specs.declared.error.ErrorKind.TheVariants.{ColumnNotFound, InvalidOperation, ComputeError}
use Rattle.plan_dsl.specs.declared.function_expr.FunctionExpr.TheVariants.{FieldByName}
use Rattle.plan_dsl.specs.Trees.{Trees, node, no_more, more, children_from, fold}
use Rattle.plan_dsl.specs.Functions.{is_horizontal}
use Rattle.plan_dsl.specs.Slices.{slice_start}
use Rattle.plan_dsl.specs.Ops.{Op, ColumnOp, AliasOp, FunctionOp, Expression}
use Rattle.plan_dsl.specs.Refusals.{then_ok, each_ok, lists_joined}
use Rattle.plan_dsl.specs.Sources.{Renaming, KeepRoot, AddPrefix, AddSuffix, SetName, SourceOp, Plain, WildcardOp, ColumnsOp, DtypeColumnOp, IndexColumnOp, NthOp, ExcludeOp, SelectorOp, RenameOp, FieldAtOp, Source, same_source, written}
use Rattle.plan_dsl.specs.Markers.{marker_names}

-- ---- a name in place of markers

abbrev pub is_marker : SourceOp → Bool
is_marker WildcardOp = true
is_marker (ColumnsOp names) = true
is_marker (DtypeColumnOp types) = true
is_marker (IndexColumnOp places) = true
is_marker (NthOp place) = true
is_marker (ExcludeOp excluded) = true
is_marker SelectorOp = true
is_marker op = false

abbrev mutual
  -- the markers in an expression; what stands inside one is its own
  pub markers_in : Source → List Source
  markers_in (node op children) = if is_marker op then node op children ∷ [] else all_markers_in children

  pub all_markers_in : Trees SourceOp → List Source
  all_markers_in no_more = []
  all_markers_in (more child rest) = markers_in child ++ all_markers_in rest

abbrev mutual
  -- the expression with the column of that name in place of all its markers
  pub with_column_put : Name → Source → Source
  with_column_put name (node op children) = if is_marker op then node (Plain (ColumnOp name)) no_more else node op (all_with_column_put name children)

  pub all_with_column_put : Name → Trees SourceOp → Trees SourceOp
  all_with_column_put name no_more = no_more
  all_with_column_put name (more child rest) = more (with_column_put name child) (all_with_column_put name rest)

-- the expression, repeated for these markers of it: once as it is, where there are none
abbrev pub repeated_for : List Name → Columns → Source → List Source → Result (List Source) ErrorKind
repeated_for keys schema source [] = Ok (source ∷ [])
repeated_for keys schema source (marker ∷ others) =
    if list_all (same_source marker) others then then_ok (marker_names keys schema marker) (λ names. Ok (map (λ name. with_column_put name source) names)) else Err InvalidOperation

abbrev pub repeated : List Name → Columns → Source → Result (List Source) ErrorKind
repeated keys schema source = repeated_for keys schema source (markers_in source)

-- ---- a name in place of a renaming form

abbrev mutual
  -- an expression with plans' ops alone
  pub plain : Source → Result Expression ErrorKind
  plain (node (Plain op) children) = then_ok (all_plain children) (λ inputs. Ok (node op inputs))
  plain tree = Err InvalidOperation

  pub all_plain : Trees SourceOp → Result (Trees Op) ErrorKind
  all_plain no_more = Ok no_more
  all_plain (more child rest) = then_ok (plain child) (λ first. then_ok (all_plain rest) (λ others. Ok (more first others)))

abbrev pub first_root : List (Option Name) → Option Name
first_root [] = None
first_root (root ∷ roots) = option_or root (first_root roots)

abbrev pub root_of_node : Op → List (Option Name) → Option Name
root_of_node (ColumnOp name) roots = Some name
root_of_node op roots = first_root roots

-- the name of an expression's first column, in the order of children
abbrev pub root_name : Expression → Option Name
root_name tree = fold root_of_node tree

-- the name that a renaming form gives, by that of the first column
abbrev pub name_given : Renaming → Option Name → Result Name ErrorKind
name_given (SetName text) root = Ok text
name_given KeepRoot (Some name) = Ok name
name_given (AddPrefix text) (Some name) = Ok (text ++ name)
name_given (AddSuffix text) (Some name) = Ok (name ++ text)
name_given renaming None = Err InvalidOperation

-- an expression under the alias that a renaming form gives it
abbrev pub under_alias : Renaming → Expression → Result Expression ErrorKind
under_alias renaming tree = then_ok (name_given renaming (root_name tree)) (λ name. Ok (node (AliasOp name) (more tree no_more)))

-- an expression without markers, with the renaming form at its top made an alias
abbrev pub aliased : Source → Result Expression ErrorKind
aliased (node (RenameOp renaming) (more source no_more)) = then_ok (plain source) (under_alias renaming)
aliased source = plain source

-- ---- a field's name in place of its place

-- the names of a struct's fields
abbrev pub field_names : Fields → List Name
field_names no_field = []
field_names (with_field name type rest) = name ∷ field_names rest

abbrev pub field_from : List Name → ℤ → Result Name ErrorKind
field_from names (pos place) = ok_or (slice_get names place) InvalidOperation
field_from names (negsuc before) = Err InvalidOperation

-- the name of the field at a place of a column of structs: a place below 0 counts from the end
abbrev pub field_at : Option Ty → ℤ → Result Name ErrorKind
field_at None place = Err ColumnNotFound
field_at (Some (StructType fields)) place = field_from (field_names fields) (slice_start place (length (field_names fields)))
field_at (Some type) place = Err InvalidOperation

-- a column's field of that name
abbrev pub column_field : Name → Name → Source
column_field column field = node (Plain (FunctionOp (FieldByName field) [])) (more (node (Plain (ColumnOp column)) no_more) no_more)

-- a node with its field named: it must be one of a column
abbrev pub field_named : Columns → SourceOp → Trees SourceOp → Result Source ErrorKind
field_named schema (FieldAtOp place) (more (node (Plain (ColumnOp name)) no_more) no_more) = then_ok (field_at (type_at schema name) place) (λ field. Ok (column_field name field))
field_named schema (FieldAtOp place) children = Err InvalidOperation
field_named schema op children = Ok (node op children)

abbrev mutual
  -- an expression without markers, with all its fields named
  pub fields_named : Columns → Source → Result Source ErrorKind
  fields_named schema (node op children) = then_ok (all_fields_named schema children) (field_named schema op)

  pub all_fields_named : Columns → Trees SourceOp → Result (Trees SourceOp) ErrorKind
  all_fields_named schema no_more = Ok no_more
  all_fields_named schema (more child rest) = then_ok (fields_named schema child) (λ first. then_ok (all_fields_named schema rest) (λ others. Ok (more first others)))

-- ---- expansion

-- an expression without markers: its fields are named, and a renaming form at its top is made an alias
abbrev pub as_expression : Columns → Source → Result Expression ErrorKind
as_expression schema source = then_ok (fields_named schema source) aliased

-- what an expression is expanded to whose horizontals have their inputs in place
abbrev pub expanded_alone : List Name → Columns → Source → Result (List Expression) ErrorKind
expanded_alone keys schema source = then_ok (repeated keys schema source) (each_ok (as_expression schema))

-- what each of some inputs is expanded to, in order
abbrev pub spread : List Name → Columns → Trees SourceOp → Result (List Expression) ErrorKind
spread keys schema no_more = Ok []
spread keys schema (more child rest) = then_ok (expanded_alone keys schema child) (λ first. then_ok (spread keys schema rest) (λ others. Ok (first ++ others)))

-- whether a node's inputs are expanded in place
abbrev pub spreads : SourceOp → Bool
spreads (Plain (FunctionOp function recorded)) = is_horizontal function
spreads op = false

-- the node over its inputs in place
abbrev pub over_inputs : List Name → Columns → SourceOp → Trees SourceOp → Result Source ErrorKind
over_inputs keys schema op children =
    if spreads op then then_ok (spread keys schema children) (λ inputs. Ok (node op (children_from (map written inputs)))) else Ok (node op children)

abbrev mutual
  -- an expression in which the inputs of horizontals are expanded in place; what stands inside a marker is its own
  pub in_place : List Name → Columns → Source → Result Source ErrorKind
  in_place keys schema (node op children) =
      if is_marker op then Ok (node op children) else then_ok (all_in_place keys schema children) (over_inputs keys schema op)

  pub all_in_place : List Name → Columns → Trees SourceOp → Result (Trees SourceOp) ErrorKind
  all_in_place keys schema no_more = Ok no_more
  all_in_place keys schema (more child rest) = then_ok (in_place keys schema child) (λ first. then_ok (all_in_place keys schema rest) (λ others. Ok (more first others)))

-- the names of keys: of those that are plain columns
abbrev pub key_name : Source → List Name
key_name (node (Plain (ColumnOp name)) no_more) = name ∷ []
key_name key = []

abbrev pub key_names : List Source → List Name
key_names keys = flat_map key_name keys

-- what an expression is expanded to
abbrev pub expansion : List Name → Columns → Source → Result (List Expression) ErrorKind
expansion keys schema source = then_ok (in_place keys schema source) (expanded_alone keys schema)

-- what expressions are expanded to, or the kinds of all that aren't
abbrev pub expansions : List Name → Columns → List Source → Result (List Expression) (List ErrorKind)
expansions keys schema sources = lists_joined (expansion keys schema) sources

abbrev pub only_one : List Expression → Result Expression ErrorKind
only_one (tree ∷ []) = Ok tree
only_one trees = Err ComputeError

-- the one expression to which a predicate is expanded
abbrev pub predicate_expansion : Columns → Source → Result Expression ErrorKind
predicate_expansion schema source = then_ok (expansion [] schema source) only_one
