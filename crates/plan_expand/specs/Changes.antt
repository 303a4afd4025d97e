-- What the two passes over expressions make of a node whose operands are done.
use Rattle.std.specs.Prelude.{◌≡◌, List, [], ◌∷◌, Option, Some, None, Result, Ok}
use Rattle.plan_types.specs.Schemas.{Name, Columns}
use Rattle.plan_types.specs.declared.error.ErrorKind.{ErrorKind}
use Rattle.plan_dsl.specs.Expansion.{field_named, over_inputs}
use Rattle.plan_dsl.specs.Ops.{ColumnOp}
use Rattle.plan_dsl.specs.Sources.{Plain, Source}
use Rattle.plan_dsl.specs.Trees.{node, no_more}

-- the node with its field named
abbrev pub own_field_named : Columns → Source → Result Source ErrorKind
own_field_named schema (node op children) = field_named schema op children

-- whether it has no field to be named
abbrev pub KeepsField : Source → Type 0
KeepsField source = (schema : Columns) → own_field_named schema source ≡ Ok source

-- the name of the only column
abbrev pub only_column : List Source → Option Name
only_column (node (Plain (ColumnOp name)) no_more ∷ []) = Some name
only_column sources = None

-- the node over its inputs in place
abbrev pub own_spread : List Name → Columns → Source → Result Source ErrorKind
own_spread keys schema (node op children) = over_inputs keys schema op children
