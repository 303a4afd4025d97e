-- What is found at a node, through casts that go.
use Rattle.std.specs.Prelude.{◌≡◌, ◌⊎◌, ℕ, true, false, List, [], ◌∷◌, Ok}
use Rattle.plan_types.specs.Schemas.{Columns}
use Rattle.plan_dsl.specs.declared.operator.Operator.{Operator}
use Rattle.plan_dsl.specs.InlinedCasts.{is_logical, is_told, written_out}
use Rattle.plan_dsl.specs.Literals.{literal_op}
use Rattle.plan_dsl.specs.Registry.{Registry}
use Rattle.plan_dsl.specs.Ops.{Op, BinaryOp, Expression}
use Rattle.plan_dsl.specs.Trees.{Trees, node, no_more, more}
use Rattle.plan_dsl.specs.Typing.{Typed, typing}
use Rattle.plan_arena.specs.declared.aexpr.AExpr.{AExpr}
use Rattle.plan_arena.specs.Denotation.{Denotes}
use Rattle.plan_arena.specs.Items.{HoldsExpression}
use Rattle.plan_coerce.specs.Kinds.{Becomes}
use Rattle.plan_coerce.specs.declared.cast_inlining.Told.{Told}
use Rattle.plan_coerce.specs.declared.cast_inlining.Told.TheVariants.{Literal, Logical, Neither}

-- the node, which denotes the first tree, leads to another, which denotes the second, by only inputs alone
abbrev pub LeadsTo : List AExpr → ℕ → Expression → ℕ → Expression → Type 0
LeadsTo items n (node op (more tree no_more)) m u =
    ((n ≡ m) × (node op (more tree no_more) ≡ u)) ⊎ ((k : ℕ) × HoldsExpression items n op (k ∷ []) × LeadsTo items k tree m u)
LeadsTo items n (node op operands) m u = (n ≡ m) × (node op operands ≡ u)

-- the node leads to a node of LogicalAnd or LogicalOr that has a typing, which is what the tree is, written out,
-- and what it becomes by replacements of coercion
pub record LeadsToLogical (registry : Registry) (schema : Columns) (items : List AExpr) (n : ℕ) (tree : Expression) (m : ℕ) : Type 0 where
  pub operator : Operator
  pub operands : Trees Op
  pub logical : is_logical operator ≡ true
  pub leads : LeadsTo items n tree m (node (BinaryOp operator) operands)
  pub denotes : Denotes (HoldsExpression items) m (node (BinaryOp operator) operands)
  pub typed : Typed
  pub has : typing registry schema (node (BinaryOp operator) operands) ≡ Ok typed
  pub is : written_out registry schema tree ≡ written_out registry schema (node (BinaryOp operator) operands)
  pub becomes : Becomes registry schema tree (node (BinaryOp operator) operands)

-- what is found at a node that denotes the tree: a literal, or a node of such an operator, or nothing of which a cast can be told
abbrev pub IsToldBy : Registry → Columns → List AExpr → ℕ → Expression → Told → Type 0
IsToldBy registry schema items n tree (Literal value) = written_out registry schema tree ≡ node (literal_op value) no_more
IsToldBy registry schema items n tree (Logical m) = LeadsToLogical registry schema items n tree m.0
IsToldBy registry schema items n tree Neither = is_told (written_out registry schema tree) ≡ false

-- the node denotes an expression that has a typing over some schema
pub record IsTypedNode (items : List AExpr) (n : ℕ) : Type 0 where
  pub registry : Registry
  pub schema : Columns
  pub tree : Expression
  pub denotes : Denotes (HoldsExpression items) n tree
  pub typed : Typed
  pub is : typing registry schema tree ≡ Ok typed
