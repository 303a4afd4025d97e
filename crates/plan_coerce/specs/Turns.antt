-- One turn of coercion, at one node.
use Rattle.std.specs.Prelude.{◌≡◌, ◌+◌, ◌⊎◌, ℕ, Bool, true, false, List, [], ◌∷◌, ◌++◌, reverse, set, Option, Some, Ok}
use Rattle.plan_types.specs.Types.{is_known}
use Rattle.plan_types.specs.Schemas.{Columns}
use Rattle.plan_dsl.specs.Registry.{Registry}
use Rattle.plan_dsl.specs.Ops.{Op, Expression}
use Rattle.plan_dsl.specs.Typing.{Typed, typing}
use Rattle.plan_arena.specs.declared.aexpr.AExpr.{AExpr}
use Rattle.plan_arena.specs.Denotation.{Denotes}
use Rattle.plan_arena.specs.Items.{Grows, HoldsExpression}
use Rattle.plan_coerce.specs.Reaching.{IsClosed, StaysOnce}
use Rattle.plan_infer.specs.declared.type_table.TypeTable.{TypeTable}
use Rattle.plan_infer.specs.KeptTypes.{Extends}
use Rattle.plan_coerce.specs.Rules.{IsReplacement, NeverForgets, SettlesNoNumber}

-- an item was put in place of the one at the node, and others were added for it
pub record IsPlaced (settled : Expression → Bool) (measure : Expression → ℕ) (related : Expression → Expression → Type 0) (turns : Option ℕ) (registry : Registry) (schema : Columns) (old new : List AExpr) (at : ℕ) : Type 0 where
  pub grown : List AExpr
  pub grows : Grows old grown
  pub item : AExpr
  pub is : new ≡ set grown at item
  pub answer : (t : Expression) → Denotes (HoldsExpression old) at t → IsReplacement related measure registry schema old new at t
  pub numbers : (t : Expression) (typed : Typed) → Denotes (HoldsExpression old) at t → typing registry schema t ≡ Ok typed → is_known typed.type ≡ false → SettlesNoNumber settled registry schema
  pub reaches : (n : ℕ) → turns ≡ Some n → IsClosed old (at ∷ []) new
  pub once : (n : ℕ) → turns ≡ Some n → StaysOnce old new at

-- the node was found settled, and nothing was added
pub record IsFound (settled : Expression → Bool) (old new : List AExpr) (at : ℕ) : Type 0 where
  pub same : new ≡ old
  pub is : (t : Expression) → Denotes (HoldsExpression old) at t → settled t ≡ true

-- A turn at a node that was taken from the stack: it is put back where an item was put in its place, else its inputs are.
pub data IsTurn (settled : Expression → Bool) (measure : Expression → ℕ) (related : Expression → Expression → Type 0) (turns : Option ℕ) (registry : Registry) (schema : Columns) (old new : List AExpr) (at : ℕ) (rest stack : List ℕ) (before steps : ℕ) : Type 0 where
  places : IsPlaced settled measure related turns registry schema old new at → stack ≡ rest ++ at ∷ [] → steps ≡ before + 2 → IsTurn settled measure related turns registry schema old new at rest stack before steps
  finds : IsFound settled old new at → ((op : Op) (inputs : List ℕ) → HoldsExpression new at op inputs → stack ≡ rest ++ reverse inputs) → steps ≡ before + 1 → IsTurn settled measure related turns registry schema old new at rest stack before steps

-- a number without a type is replaced there
pub record ReplacesNumber (settled : Expression → Bool) (registry : Registry) (schema : Columns) (items : List AExpr) (at : ℕ) : Type 0 where
  pub settles : SettlesNoNumber settled registry schema
  pub unknown : (t : Expression) (typed : Typed) → Denotes (HoldsExpression items) at t → typing registry schema t ≡ Ok typed → is_known typed.type ≡ false

-- what was kept of types still is after a turn by a rule that never forgets it, but for one at such a number
abbrev pub TurnKeeps : (List AExpr → TypeTable → ℕ → Type 0) → (Expression → Bool) → Registry → Columns → List AExpr → ℕ → TypeTable → TypeTable → Type 0
TurnKeeps forgets settled registry schema items at old new =
    NeverForgets forgets → Extends old new ⊎ ReplacesNumber settled registry schema items at

-- what a turn that was refused leaves
abbrev pub IsStopped : (Expression → Bool) → (Expression → ℕ) → (Expression → Expression → Type 0) → Option ℕ → Registry → Columns → List AExpr → List AExpr → ℕ → Type 0
IsStopped settled measure related turns registry schema old new at = Grows old new ⊎ IsPlaced settled measure related turns registry schema old new at
