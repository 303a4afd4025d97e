-- What a drop leaves.
-- Its selectors name columns of its input. A strict drop is refused where the input lacks one of them, and any other
-- passes over that name. What is left stays in order.
use Rattle.std.specs.Prelude.{List, [], ◌∷◌, Bool, ◌&&◌, not, filter, Result, Ok, Err, if◌then◌else◌}
use Rattle.std.specs.List.{list_all}
use Rattle.plan_types.specs.Schemas.{Name, Columns, is_among, names_of}
use Rattle.plan_types.specs.declared.error.ErrorKind.{ErrorKind}
use Rattle.plan_types.specs.declared.error.ErrorKind.TheVariants.{ColumnNotFound}
use Rattle.plan_dsl.specs.Refusals.{then_ok}
use Rattle.plan_dsl.specs.Sources.{Source}
use Rattle.plan_dsl.specs.Markers.{names_of_selectors}

-- whether columns have all of these names
abbrev pub have_names : Columns → List Name → Bool
have_names schema names = list_all (λ name. is_among name (names_of schema)) names

-- the columns but those of these names
abbrev pub columns_but : List Name → Columns → Columns
columns_but names schema = filter (λ column. not (is_among column.0 names)) schema

-- the columns but those of these names, unless a name must stand and doesn't
abbrev pub left_but : Bool → Columns → List Name → Result Columns (List ErrorKind)
left_but strict schema names = if strict && not (have_names schema names) then Err (ColumnNotFound ∷ []) else Ok (columns_but names schema)

-- the columns that a drop leaves of a schema, or the kinds by which it is refused
abbrev pub drop_leaves : Columns → List Source → Bool → Result Columns (List ErrorKind)
drop_leaves schema selectors strict = then_ok (names_of_selectors schema selectors) (left_but strict schema)
