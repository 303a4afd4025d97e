-- Laws of horizontals: over any number of operands one has the name, type and meaning of the chain for which it is written out.
use Rattle.std.specs.Prelude.{◌≡◌, ℕ, true, List, [], Ok}
use Rattle.plan_types.specs.Schemas.{Columns}
use Rattle.plan_types.specs.Frames.{Frame, IsFrame}
use Rattle.plan_dsl.specs.declared.function_expr.FunctionExpr.{FunctionExpr}
use Rattle.plan_dsl.specs.Aliases.{written_out}
use Rattle.plan_dsl.specs.Functions.{is_horizontal}
use Rattle.plan_dsl.specs.Meaning.{meaning}
use Rattle.plan_dsl.specs.Names.{label_of}
use Rattle.plan_dsl.specs.Ops.{Op, FunctionOp, Expression}
use Rattle.plan_dsl.specs.Registry.{Registry}
use Rattle.plan_dsl.specs.Trees.{Trees, node}
use Rattle.plan_dsl.specs.Typing.{Typed, typing, typing_all}

-- a node of a horizontal, and the chain for which it is written out
abbrev pub horizontal_node : FunctionExpr → Trees Op → Expression
horizontal_node function operands = node (FunctionOp function []) operands

abbrev pub horizontal_chain : FunctionExpr → Trees Op → Expression
horizontal_chain function operands = written_out (FunctionOp function []) operands

-- Both have one name. They are typed alike: one is where the other is, and where each operand has a type both have the
-- type, or are refused for the kind. On a frame a typed one gives what the chain gives, a fault where that has one.
pub record IsItsChain (registry : Registry) (schema : Columns) (function : FunctionExpr) (operands : Trees Op) : Type 0 where
  pub name : label_of (horizontal_chain function operands) ≡ label_of (horizontal_node function operands)
  pub typed : (typed : Typed) → typing registry schema (horizontal_node function operands) ≡ Ok typed → typing registry schema (horizontal_chain function operands) ≡ Ok typed
  pub typed_alone : (typed : Typed) → typing registry schema (horizontal_chain function operands) ≡ Ok typed → typing registry schema (horizontal_node function operands) ≡ Ok typed
  pub refused : (below : List Typed) → typing_all registry schema operands ≡ Ok below → typing registry schema (horizontal_chain function operands) ≡ typing registry schema (horizontal_node function operands)
  pub meaning : (frame : Frame) (typed : Typed) → IsFrame frame → frame.schema ≡ schema → typing registry schema (horizontal_node function operands) ≡ Ok typed → (rows : List ℕ) → meaning registry frame (horizontal_chain function operands) rows ≡ meaning registry frame (horizontal_node function operands) rows

abbrev pub HorizontalsAreTheirChains : Type 0
HorizontalsAreTheirChains = (registry : Registry) (schema : Columns) (function : FunctionExpr) (operands : Trees Op) → is_horizontal function ≡ true → IsItsChain registry schema function operands
