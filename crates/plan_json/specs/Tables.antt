-- Tables.
-- A list of tables has the name and the columns of each, the table of number 0 first.
use Rattle.std.specs.Prelude.{List, map}
use Rattle.plan_types.specs.Schemas.{Name, Columns, columns}
use Rattle.plan_types.specs.declared.schema.Schema.{Schema}
use Rattle.plan_json.specs.declared.tables.Tables.{Tables}

abbrev pub Declared : Type 0
Declared = List (Name × Columns)

abbrev pub table_entry : Name × Schema → Name × Columns
table_entry entry = (entry.0, columns entry.1)

-- the tables, in order
abbrev pub declared : Tables → Declared
declared tables = map table_entry tables.items.entries
