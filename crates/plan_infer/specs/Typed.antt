-- What typing an expression says, and what a node denotes that is typed.
use Rattle.std.specs.Prelude.{ℕ, List, ◌≡◌, Bool, true, Result, Ok}
use Rattle.plan_types.specs.Types.{Ty, is_known}
use Rattle.plan_types.specs.Errors.{IsRefusal}
use Rattle.plan_types.specs.declared.error.ErrorKind.{ErrorKind}
use Rattle.plan_types.specs.declared.error.PlanError.{PlanError}
use Rattle.plan_dsl.specs.Typing.{Typed}
use Rattle.plan_types.specs.Schemas.{Columns}
use Rattle.plan_dsl.specs.Registry.{Registry}
use Rattle.plan_dsl.specs.Ops.{Expression}
use Rattle.plan_arena.specs.declared.aexpr.AExpr.{AExpr}
use Rattle.plan_arena.specs.Denotation.{Denotes}
use Rattle.plan_arena.specs.Items.{HoldsExpression, HoldsFrom}
use Rattle.plan_dsl.specs.Typing.{typing}

-- the expression has this type
pub record HasType (typing : Result Typed ErrorKind) (type : Ty) : Type 0 where
  pub many : Bool
  pub is : typing ≡ Ok (record { type = type; many = many })

-- the expression has a type of columns
pub record HasKnownType (typing : Result Typed ErrorKind) : Type 0 where
  pub typed : Typed
  pub is : typing ≡ Ok typed
  pub known : is_known typed.type ≡ true

-- the node denotes a typed expression of nodes from that number on
pub record DenotesTyped (registry : Registry) (schema : Columns) (first : ℕ) (items : List AExpr) (n : ℕ) : Type 0 where
  pub tree : Expression
  pub denotes : Denotes (HoldsFrom first items) n tree
  pub typed : Typed
  pub is : typing registry schema tree ≡ Ok typed

-- the node denotes an expression of nodes from that number on, of a type of columns
pub record DenotesKnown (registry : Registry) (schema : Columns) (first : ℕ) (items : List AExpr) (n : ℕ) : Type 0 where
  pub tree : Expression
  pub denotes : Denotes (HoldsFrom first items) n tree
  pub has : HasKnownType (typing registry schema tree)

-- the refusal is that of the typing of whatever expression the node denotes
abbrev pub IsNodeRefusal : Registry → Columns → List AExpr → ℕ → PlanError → Type 0
IsNodeRefusal registry schema items n error = (t : Expression) → Denotes (HoldsExpression items) n t → IsRefusal (typing registry schema t) error
