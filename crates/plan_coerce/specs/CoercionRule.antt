-- What the rule of coercion answers for a node, and what of it is kept.
use Rattle.std.specs.Prelude.{◌≡◌, ◌≢◌, ◌⊎◌, ℕ, Bool, true, List, [], ◌∷◌, set}
use Rattle.plan_types.specs.Schemas.{Columns}
use Rattle.plan_dsl.specs.declared.operator.Operator.{Operator}
use Rattle.plan_dsl.specs.InlinedCasts.{is_cast_op, is_logical}
use Rattle.plan_dsl.specs.Registry.{Registry}
use Rattle.plan_dsl.specs.Ops.{Op, BinaryOp, Expression}
use Rattle.plan_arena.specs.declared.aexpr.AExpr.{AExpr}
use Rattle.plan_arena.specs.Denotation.{Denotes}
use Rattle.plan_arena.specs.Items.{HoldsExpression}
use Rattle.plan_infer.specs.declared.type_table.Inferred.{Inferred}
use Rattle.plan_infer.specs.declared.type_table.TypeTable.{TypeTable}
use Rattle.plan_infer.specs.KeptTypes.{Extends, IsRight, KeepsEntry}
use Rattle.plan_coerce.specs.Kinds.{Becomes}
use Rattle.plan_coerce.specs.Reaching.{IsClosed, IsReached, StaysOnce}
use Rattle.plan_coerce.specs.Rules.{ExtendsUnless, HasSameWritten, IsReplacement, KeepsNumber, until_settled}

-- both are one expression once they are written out, and the one becomes the other by replacements of the four kinds
pub record IsCoercion (registry : Registry) (schema : Columns) (before after : Expression) : Type 0 where
  pub same : HasSameWritten registry schema before after
  pub becomes : Becomes registry schema before after

-- Where what is kept of types is forgotten: at a cast that goes, where it is kept of the cast, or of the LogicalAnd or
-- LogicalOr to which it leads, that it takes its operands to types that are listed.
pub record ForgetsAt (items : List AExpr) (table : TypeTable) (at : ℕ) : Type 0 where
  pub op : Op
  pub inputs : List ℕ
  pub held : HoldsExpression items at op inputs
  pub cast : is_cast_op op ≡ true
  pub node : ℕ
  pub is : (node ≡ at) ⊎ ((operator : Operator) × (operands : List ℕ) × (is_logical operator ≡ true) × HoldsExpression items node (BinaryOp operator) operands × IsReached items (at ∷ []) node)
  pub own : Inferred
  pub keeps : KeepsEntry table node own
  pub listed : own.operands ≢ []

-- where it is, once the node is typed
pub record ForgetsOnceTyped (items : List AExpr) (table : TypeTable) (at : ℕ) : Type 0 where
  pub typed : TypeTable
  pub extends : Extends table typed
  pub forgets : ForgetsAt items typed at

-- the node is settled, and stays, with what is kept
pub record StaysSettled (settled : Registry → Columns → Expression → Bool) (old new : List AExpr) (table table' : TypeTable) (at : ℕ) : Type 0 where
  pub is : (registry : Registry) (schema : Columns) (t : Expression) → IsRight registry schema old table → Denotes (HoldsExpression old) at t → settled registry schema t ≡ true
  pub same : new ≡ old
  pub keeps : table' ≡ table

-- an item can be put in place of the one at a node, in the arena as it has grown
pub record CanReplace (old new : List AExpr) (table table' : TypeTable) (at : ℕ) (item : AExpr) : Type 0 where
  pub answer : (registry : Registry) (schema : Columns) (t : Expression) → IsRight registry schema old table → Denotes (HoldsExpression old) at t → IsReplacement (IsCoercion registry schema) (until_settled registry schema) registry schema old (set new at item) at t
  pub reaches : IsClosed old (at ∷ []) (set new at item)
  pub once : StaysOnce old (set new at item) at
  pub placed : (registry : Registry) (schema : Columns) → IsRight registry schema old table → ¬ (KeepsNumber table' at) → IsRight registry schema (set new at item) table'
  pub right : (registry : Registry) (schema : Columns) → IsRight registry schema old table → IsRight registry schema new table'
  pub kept : ExtendsUnless (ForgetsAt old table at) table table'
