-- What is asked of each of some expressions as they are lowered: which rules it breaks, and the columns that are made.
use Rattle.std.specs.Prelude.{◌≡◌, ◌⊎◌, List, [], ◌∷◌, is_some}
use Rattle.plan_types.specs.Errors.{no_memory, at_top}
use Rattle.plan_types.specs.Schemas.{Name, Columns, type_at}
use Rattle.plan_types.specs.declared.error.ErrorKind.{ErrorKind}
use Rattle.plan_types.specs.declared.error.PlanError.{PlanError}
use Rattle.plan_dsl.specs.PlanRules.{kind_where, type_kinds}
use Rattle.plan_dsl.specs.Plans.{Work, SelectWork, FilterWork, SortWork}
use Rattle.plan_dsl.specs.Typing.{Typed}
use Rattle.plan_lower.specs.declared.conversion.asked.Asked.{Asked}
use Rattle.plan_lower.specs.declared.conversion.asked.Asked.TheVariants.{NewName, TruthValue, Order}

-- a work that asks it of the types of its expressions
abbrev pub asked_work : Asked → Work
asked_work (NewName twice) = SelectWork
asked_work TruthValue = FilterWork
asked_work Order = SortWork [] []

-- the kinds that a typed expression of the name breaks behind these columns
abbrev pub asked_kinds : Asked → Columns → Name → Typed → List ErrorKind
asked_kinds (NewName twice) before name typed = kind_where (is_some (type_at before name)) twice
asked_kinds asked before name typed = type_kinds (asked_work asked) typed

-- the columns that are made of those of expressions: all where their names are asked for, else none
abbrev pub asked_columns : Asked → Columns → Columns
asked_columns (NewName twice) columns = columns
asked_columns asked columns = []

-- the refusal is out of memory, or the one kind that is broken
abbrev pub IsMemoryOrOne : List ErrorKind → PlanError → Type 0
IsMemoryOrOne kinds error = (error ≡ no_memory) ⊎ ((kind : ErrorKind) × (error ≡ at_top kind) × (kinds ≡ kind ∷ []))
