-- Items of expressions by themselves: what one denotes, as a node that has it would, and what is said of that.
use Rattle.std.specs.Prelude.{◌≡◌, ◌&&◌, Bool, List, Ok}
use Rattle.std.specs.List.{AllByRecursion}
use Rattle.plan_types.specs.Errors.{IsRefusal}
use Rattle.plan_types.specs.Schemas.{Columns}
use Rattle.plan_types.specs.Types.{ty}
use Rattle.plan_types.specs.declared.dtype.DataType.{DataType}
use Rattle.plan_types.specs.declared.error.PlanError.{PlanError}
use Rattle.plan_types.specs.declared.field.Field.{Field}
use Rattle.plan_dsl.specs.Ops.{Op, Expression}
use Rattle.plan_dsl.specs.Registry.{Registry}
use Rattle.plan_dsl.specs.Trees.{node}
use Rattle.plan_dsl.specs.Typing.{Typed, typing}
use Rattle.plan_arena.specs.declared.aexpr.AExpr.{AExpr}
use Rattle.plan_arena.specs.Denotation.{DenoteAll, DenotesTree}
use Rattle.plan_arena.specs.Layers.{Layer, op_of, inputs_of}
use Rattle.plan_arena.specs.Items.{HoldsExpression}
use Rattle.plan_infer.specs.declared.field.Context.{Context}
use Rattle.plan_infer.specs.Fields.{IsFieldOf, type_in}

-- an item denotes an expression where it does what the top does, and its inputs denote the operands
abbrev pub LayerDenotes : List AExpr → Layer Op → Expression → Type 0
LayerDenotes items item (node op operands) = (op_of item ≡ op) × DenoteAll (HoldsExpression items) (inputs_of item) operands

-- an item's inputs denote expressions
abbrev pub HasOperands : List AExpr → Layer Op → Type 0
HasOperands items item = AllByRecursion (DenotesTree (HoldsExpression items)) (inputs_of item)

-- the type is that of an expression's column in a context
pub record IsTypeOf (registry : Registry) (schema : Columns) (ctxt : Context) (tree : Expression) (dtype : DataType) : Type 0 where
  pub typed : Typed
  pub typed_is : typing registry schema tree ≡ Ok typed
  pub type : ty dtype ≡ type_in ctxt typed

-- the field is that of the expression that an item denotes
abbrev pub IsItemField : Registry → Columns → Context → List AExpr → Layer Op → Field → Type 0
IsItemField registry schema ctxt items item field = (t : Expression) → LayerDenotes items item t → IsFieldOf registry schema ctxt t field

-- and so is the type
abbrev pub IsItemType : Registry → Columns → Context → List AExpr → Layer Op → DataType → Type 0
IsItemType registry schema ctxt items item dtype = (t : Expression) → LayerDenotes items item t → IsTypeOf registry schema ctxt t dtype

-- the refusal is that of the expression's typing
abbrev pub IsItemRefusal : Registry → Columns → List AExpr → Layer Op → PlanError → Type 0
IsItemRefusal registry schema items item error = (t : Expression) → LayerDenotes items item t → IsRefusal (typing registry schema t) error

-- a flag stays where the expression's column may have another length than one, and else falls
abbrev pub StaysWhereMany : Registry → Columns → List AExpr → Layer Op → Bool → Bool → Type 0
StaysWhereMany registry schema items item old new =
    (t : Expression) (typed : Typed) → LayerDenotes items item t → typing registry schema t ≡ Ok typed → new ≡ (old && typed.many)
