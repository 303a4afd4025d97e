-- The registry of functions.
-- An expression or a plan names a function by its number. Definitions take the list of their meanings.
use Rattle.std.specs.Prelude.{List, []}
use Rattle.plan_dsl.specs.declared.udfs.Udfs.{Udfs}

-- what a function declares and does; there is none yet
pub data FunctionMeaning : Type 0 where

abbrev pub Registry : Type 0
Registry = List FunctionMeaning

abbrev pub registry : Udfs → Registry
registry udfs = []
