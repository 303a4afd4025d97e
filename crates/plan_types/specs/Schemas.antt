-- Schemas as the code keeps them.
use Rattle.std.specs.Prelude.{map}
use Rattle.plan_types.specs.declared.schema.Schema.{Schema}
pub use Rattle.plan_types.specs.Columns.{Name, same_name, Columns, column_of, type_at, with_column, IsNewName, HasDistinctNames, is_among, repeats, names_of, all_known}

-- the columns of a schema, in order
abbrev pub columns : Schema → Columns
columns schema = map column_of schema.fields.entries
