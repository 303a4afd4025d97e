-- Functions from a frame to a frame.
use Rattle.std.specs.Prelude.{ℕ, List, Option, Bool}
use Rattle.plan_types.specs.Schemas.{Name}
use Rattle.plan_dsl.specs.declared.function.StatsFunction.{StatsFunction}

-- What a function makes of a frame whose columns are known by name. It numbers its rows in a new first column. It gives a
-- row for each item of the lists of some columns. It puts the values of columns below each other, each beside its
-- column's name and the row's values under the index. It gives columns new names, or puts the fields of structs in
-- place of these. Whether a new name stood before, which a rename tells, means nothing.
pub data TableFunction : Type 0 where
  RowIndexFunction : (name : Name) (offset : Option ℕ) → TableFunction
  ExplodeFunction : (columns : List Name) → TableFunction
  UnpivotFunction : (on index : List Name) (variable value : Option Name) → TableFunction
  RenameFunction : (existing new : List Name) (swapping : Bool) → TableFunction
  UnnestFunction : (columns : List Name) → TableFunction

-- A function as a query calls it: over selectors in place of names, and with what it asks of these. Explodes of no columns
-- may be allowed, and a strict rename asks that each of its columns stands. Statistics are those of all columns.
pub data TableCall : Type 0 where
  ExplodeCall : (allow_empty : Bool) → TableCall
  UnpivotCall : (variable value : Option Name) → TableCall
  RenameCall : (existing new : List Name) (strict : Bool) → TableCall
  UnnestCall : TableCall
  StatsCall : (statistic : StatsFunction) → TableCall
