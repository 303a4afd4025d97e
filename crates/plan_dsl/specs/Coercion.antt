-- Expressions with every implicit cast written out.
use Rattle.std.specs.Prelude.{List, Result, Ok, Err}
use Rattle.plan_types.specs.Types.{Ty}
use Rattle.plan_types.specs.Schemas.{Columns}
use Rattle.plan_types.specs.declared.error.ErrorKind.{ErrorKind}
use Rattle.plan_dsl.specs.Registry.{Registry}
use Rattle.plan_dsl.specs.Trees.{Trees, node, no_more, more}
use Rattle.plan_dsl.specs.Ops.{Op, Expression}
use Rattle.plan_dsl.specs.Strictness.{as_operands}
use Rattle.plan_dsl.specs.Typing.{Typed, Ruling, rule, types_of, typing_all}

-- operands that a node over typed children takes, made of their types where it has a rule
abbrev pub fitted_by : Result Ruling ErrorKind → List Ty → Trees Op → Trees Op
fitted_by (Err kind) types operands = operands
fitted_by (Ok ruling) types operands = as_operands types ruling.operands operands

abbrev pub fitted : Registry → Columns → Op → Result (List Typed) ErrorKind → Trees Op → Trees Op
fitted registry schema op (Err kind) operands = operands
fitted registry schema op (Ok typed) operands = fitted_by (rule registry schema op typed) (types_of typed) operands

-- an expression with every implicit cast written out: a cast stands round an operand only where its type is another
abbrev mutual
  pub coerced : Registry → Columns → Expression → Expression
  coerced registry schema (node op children) = node op (fitted registry schema op (typing_all registry schema children) (coerced_all registry schema children))

  pub coerced_all : Registry → Columns → Trees Op → Trees Op
  coerced_all registry schema no_more = no_more
  coerced_all registry schema (more child rest) = more (coerced registry schema child) (coerced_all registry schema rest)
