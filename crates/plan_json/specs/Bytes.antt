-- The query that bytes write.
use Rattle.std.specs.Prelude.{◌≡◌, ℕ, List, Some, IsUtf8}
use Rattle.serde_json.specs.Data.{Data}
use Rattle.serde_json.specs.Read.{read}
use Rattle.plan_json.specs.Errors.{IsErrorOf}
use Rattle.plan_json.specs.Faults.{a_query}
use Rattle.plan_json.specs.Queries.{QueryModel, IsQueryOf}
use Rattle.plan_json.specs.declared.error.JsonError.{JsonError}
use Rattle.plan_json.specs.declared.error.JsonError.TheVariants.{NotJson, Shape, Float, Name, NoMemory}

-- the bytes are JSON text of the value
abbrev pub IsTextOf : List ℕ → Data → Type 0
IsTextOf bytes d = IsUtf8 bytes × (read bytes ≡ Some d)

-- the bytes write the query
abbrev pub WritesQuery : List ℕ → QueryModel → Type 0
WritesQuery bytes query = (d : Data) × IsTextOf bytes d × IsQueryOf d query

-- The error says why the bytes write no query: they are no JSON text, or a part of their value is at
-- fault. Out of memory may come always.
abbrev pub IsRefusalOf : List ℕ → JsonError → Type 0
IsRefusalOf bytes NotJson = (d : Data) → ¬ IsTextOf bytes d
IsRefusalOf bytes (Shape path) = (d : Data) × IsTextOf bytes d × IsErrorOf a_query d (Shape path)
IsRefusalOf bytes (Float path) = (d : Data) × IsTextOf bytes d × IsErrorOf a_query d (Float path)
IsRefusalOf bytes (Name path) = (d : Data) × IsTextOf bytes d × IsErrorOf a_query d (Name path)
IsRefusalOf bytes NoMemory = Unit {0}
