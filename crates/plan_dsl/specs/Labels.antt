-- Names, with what they come from: a column may be called `literal` too.
use Rattle.std.specs.Prelude.{List, [], ◌∷◌, codes}
use Rattle.plan_types.specs.Schemas.{Name}

-- what a name comes from: a column, a literal or a count of rows, an alias, a field of a struct, or nothing, where none is
-- set
pub data Origin : Type 0 where
  FromColumn : Origin
  FromLiteral : Origin
  FromAlias : Origin
  FromField : Origin
  FromNothing : Origin

-- a name, with what it comes from
pub record Label : Type 0 where
  pub name : Name
  pub origin : Origin

abbrev pub column_label : Name → Label
column_label name = record { name = name; origin = FromColumn }

abbrev pub literal_label : Name → Label
literal_label name = record { name = name; origin = FromLiteral }

abbrev pub alias_label : Name → Label
alias_label name = record { name = name; origin = FromAlias }

abbrev pub field_label : Name → Label
field_label name = record { name = name; origin = FromField }

abbrev pub first_label : List Label → Label
first_label [] = literal_label (codes "literal")
first_label (label ∷ labels) = label
