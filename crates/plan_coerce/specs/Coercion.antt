-- Operands that are made of other types, and what adding nodes for them leaves.
use Rattle.std.specs.Prelude.{◌≡◌, ◌≢◌, ◌<◌, ◌≤◌, ◌⊎◌, ℕ, ℤ, true, false, List, [], ◌∷◌, length, map, Some, slice_get}
use Rattle.std.specs.List.{AllByRecursion}
use Rattle.plan_types.specs.Types.{Ty, Untyped, ty, is_known, same_type}
use Rattle.plan_types.specs.Schemas.{Columns}
use Rattle.plan_types.specs.declared.dtype.CastOptions.{CastOptions}
use Rattle.plan_types.specs.declared.dtype.DataType.{DataType}
use Rattle.plan_dsl.specs.Registry.{Registry}
use Rattle.plan_dsl.specs.Ops.{Op, CastOp, Expression}
use Rattle.plan_dsl.specs.Strictness.{CanBecome, as_operand}
use Rattle.plan_arena.specs.declared.aexpr.AExpr.{AExpr}
use Rattle.plan_arena.specs.Denotation.{Denotes}
use Rattle.plan_arena.specs.Layers.{layer, inputs_of, op_of}
use Rattle.plan_arena.specs.Items.{HoldsExpression, HoldsFrom, expression_layer}
use Rattle.plan_infer.specs.declared.type_table.Inferred.{Inferred}
use Rattle.plan_infer.specs.declared.type_table.TypeTable.{TypeTable}
use Rattle.plan_infer.specs.KeptTypes.{Extends, IsKept, IsRight, Keeps, KeepsEntry, KeepsType}
use Rattle.plan_coerce.specs.Reaching.{IsClosed}

-- items below the number stay
abbrev pub KeepsBelow : ℕ → List AExpr → List AExpr → Type 0
KeepsBelow first old new = (n : ℕ) (op : Op) (inputs : List ℕ) → ¬ (first ≤ n) → HoldsExpression old n op inputs → HoldsExpression new n op inputs

-- the operand at a node has the type, or can be made of it
pub record IsReady (table : TypeTable) (n : ℕ) (target : Ty) : Type 0 where
  pub dtype : DataType
  pub keeps : Keeps table n dtype
  pub becomes : (ty dtype ≡ target) ⊎ CanBecome (ty dtype) target

-- the operand at a node has the type at a place of a list, or can be made of it
pub record IsReadyAt (table : TypeTable) (n : ℕ) (targets : List DataType) (index : ℕ) : Type 0 where
  pub target : DataType
  pub there : slice_get targets index ≡ Some target
  pub ready : IsReady table n (ty target)

-- operands at nodes, one by one
abbrev pub AllReady : TypeTable → List ℕ → List Ty → Type 0
AllReady table [] [] = Unit {0}
AllReady table (n ∷ ns) (target ∷ targets) = IsReady table n target × AllReady table ns targets
AllReady table [] (target ∷ targets) = ⊥
AllReady table (n ∷ ns) [] = ⊥

-- an operand's node, the one that stands for it, its type, and the one to which it is taken
pub record Operand : Type 0 where
  pub input : ℕ
  pub changed : ℕ
  pub from : Ty
  pub target : Ty

-- The node stands for the operand, made of the type to which it is taken. An operand of that type stays, and others
-- have a new node.
pub record IsChanged (old new : List AExpr) (table : TypeTable) (operand : Operand) : Type 0 where
  pub keeps : KeepsType table operand.input operand.from
  pub denotes : (first : ℕ) (t : Expression) → first ≤ length old → Denotes (HoldsFrom first old) operand.input t → Denotes (HoldsFrom first new) operand.changed (as_operand operand.from operand.target t)
  pub stays : same_type operand.from operand.target ≡ true → operand.changed ≡ operand.input
  pub fresh : same_type operand.from operand.target ≡ false → length old ≤ operand.changed

-- the nodes stand for the inputs, each taken to its type
pub record AreChanged (old new : List AExpr) (table : TypeTable) (inputs changed : List ℕ) (targets : List Ty) : Type 0 where
  pub operands : List Operand
  pub inputs_are : map (λ o. o.input) operands ≡ inputs
  pub changed_are : map (λ o. o.changed) operands ≡ changed
  pub targets_are : map (λ o. o.target) operands ≡ targets
  pub each : AllByRecursion (IsChanged old new table) operands

-- the table keeps of the node that it takes its operands as they are, and a type of columns
pub record KeepsStrict (table : TypeTable) (n : ℕ) : Type 0 where
  pub own : Inferred
  pub keeps : KeepsEntry table n own
  pub none : own.operands ≡ []
  pub known : is_known (ty own.dtype) ≡ true

-- where the node is a cast, its operand is kept as one of another type
abbrev pub ChangesType : List AExpr → TypeTable → ℕ → Type 0
ChangesType items table n =
    (target : Ty) (options : CastOptions) (k : ℕ) → HoldsExpression items n (CastOp target options) (k ∷ []) → (from : Inferred) × KeepsEntry table k from × (same_type (ty from.dtype) target ≡ false)

-- each node of an arena from a number on is kept as a strict one, and each cast of these changes the type
abbrev pub AllStrictFrom : ℕ → List AExpr → TypeTable → Type 0
AllStrictFrom start items table = (n : ℕ) → start ≤ n → n < length items → KeepsStrict table n × ChangesType items table n

-- What adding nodes leaves: what is kept stays, and is right if it was; each new node is kept as a strict one; and the inputs
-- of nodes that roots reach, or that were added, are such nodes, where those are of which it is said.
pub record AddsNodes (near : List AExpr → List ℕ → Type 0) (old new : List AExpr) (table table' : TypeTable) : Type 0 where
  pub right : (registry : Registry) (schema : Columns) → IsRight registry schema old table → IsRight registry schema new table'
  pub closed : (start : List AExpr) (roots : List ℕ) → length start ≤ length old → near start roots → IsClosed start roots old → IsClosed start roots new
  pub added : (registry : Registry) (schema : Columns) (start : ℕ) → start ≤ length old → IsRight registry schema old table → AllStrictFrom start old table → AllStrictFrom start new table'
  pub extends : Extends table table'

-- what is kept of a node that has a type of columns, and takes its operands to types that are listed
pub record TakesOperands (own : Inferred) : Type 0 where
  pub some : own.operands ≢ []
  pub typed : (number : ℤ) → ty own.dtype ≢ Untyped number

-- an item does what the one at the node does, over these nodes
pub record IsOver (items : List AExpr) (at : ℕ) (item : AExpr) (nodes : List ℕ) : Type 0 where
  pub before : AExpr
  pub got : slice_get items at ≡ Some before
  pub is : expression_layer item ≡ layer (op_of (expression_layer before)) nodes

-- An item does what the one at the node does, over nodes that stand for its operands, made of the types that are kept as
-- those to which it takes them.
pub record IsOverOperands (old new : List AExpr) (table table' : TypeTable) (at : ℕ) (item : AExpr) : Type 0 where
  pub before : AExpr
  pub got : slice_get old at ≡ Some before
  pub nodes : List ℕ
  pub is : expression_layer item ≡ layer (op_of (expression_layer before)) nodes
  pub changed : (own : Inferred) → KeepsEntry table at own → AreChanged old new table (inputs_of (expression_layer before)) nodes (map ty own.operands)
  pub kept : AllByRecursion (IsKept table') nodes
