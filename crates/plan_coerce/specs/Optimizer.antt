-- What coercion by a rule leaves of two arenas, from roots on.
use Rattle.std.specs.Prelude.{◌≡◌, ◌⊎◌, ◌≤◌, ◌+◌, ◌*◌, ℕ, ℤ, Bool, true, List, [], ◌∷◌, ◌++◌, length, map, reverse, slice_get, Option, Some, option_map, unwrap_or, Ok}
use Rattle.std.specs.List.{AllByRecursion}
use Rattle.plan_types.specs.Errors.{IsRefusal, no_memory}
use Rattle.plan_types.specs.Types.{Untyped, is_known}
use Rattle.plan_types.specs.Schemas.{Columns}
use Rattle.plan_types.specs.declared.error.PlanError.{PlanError}
use Rattle.plan_dsl.specs.InlinedCasts.{written_out}
use Rattle.plan_dsl.specs.Literals.{settled as with_own_type}
use Rattle.plan_dsl.specs.Registry.{Registry}
use Rattle.plan_dsl.specs.Ops.{Op, Expression}
use Rattle.plan_dsl.specs.Trees.{Trees, node, no_more, more}
use Rattle.plan_dsl.specs.Plans.{Named, PlanKind, FilterKind}
use Rattle.plan_dsl.specs.Strictness.{IsSame, IsStrict}
use Rattle.plan_dsl.specs.Typing.{Typed, typing}
use Rattle.plan_arena.specs.declared.aexpr.AExpr.{AExpr}
use Rattle.plan_arena.specs.declared.ir.IR.{IR}
use Rattle.plan_arena.specs.Denotation.{Denotes, DenotesTree}
use Rattle.plan_arena.specs.Items.{HoldsExpression, expression_layer, numbers, passed}
use Rattle.plan_infer.specs.declared.type_table.TypeTable.{TypeTable}
use Rattle.plan_infer.specs.KeptTypes.{Extends, IsRight}
use Rattle.plan_coerce.specs.declared.stack_opt.ConversionOptimizer.{ConversionOptimizer}
use Rattle.plan_coerce.specs.Coercion.{KeepsBelow}
use Rattle.plan_coerce.specs.Reaching.{Among, AreOnce, HaveNodes, IsReached, Near}
use Rattle.plan_coerce.specs.Rules.{IsLike, IsPlanReplacement, IsSettledPlan, NeverForgets, SettlesNoNumber, StandsOver}

-- the nodes at which coercion starts, and these with their inputs
abbrev pub roots_of : ConversionOptimizer → List ℕ
roots_of optimizer = numbers optimizer.roots.items

abbrev pub stacked : ConversionOptimizer → List ℕ
stacked optimizer = numbers optimizer.scratch.items

-- a node, and then its inputs, as passes go over them, the last one first
abbrev pub with_inputs : List AExpr → ℕ → List ℕ
with_inputs items n = n ∷ reverse (unwrap_or (option_map passed (slice_get (map expression_layer items) n)) [])

-- each node in turn with its inputs
abbrev pub all_with_inputs : List AExpr → List ℕ → List ℕ
all_with_inputs items [] = []
all_with_inputs items (n ∷ ns) = with_inputs items n ++ all_with_inputs items ns

-- each node of the expression is settled
abbrev mutual
  pub IsSettled : (Expression → Bool) → Expression → Type 0
  IsSettled settled (node op children) = (settled (node op children) ≡ true) × AreSettled settled children

  pub AreSettled : (Expression → Bool) → Trees Op → Type 0
  AreSettled settled no_more = Unit
  AreSettled settled (more child rest) = IsSettled settled child × AreSettled settled rest

-- the node denotes an expression of which each node is settled
pub record DenotesSettled (settled : Expression → Bool) (items : List AExpr) (n : ℕ) : Type 0 where
  pub tree : Expression
  pub denotes : Denotes (HoldsExpression items) n tree
  pub each : IsSettled settled tree

-- the node denotes an expression of the same type, name and meaning that is related
pub record DenotesLike (related : Expression → Expression → Type 0) (registry : Registry) (schema : Columns) (items : List AExpr) (n : ℕ) (before : Expression) : Type 0 where
  pub tree : Expression
  pub denotes : Denotes (HoldsExpression items) n tree
  pub like : IsLike related registry schema before tree

-- so does each node of what it denoted
abbrev pub StaysLike : (Expression → Expression → Type 0) → Registry → Columns → List AExpr → List AExpr → Type 0
StaysLike related registry schema old new =
    (n : ℕ) (t : Expression) → Denotes (HoldsExpression old) n t → DenotesLike related registry schema new n t

-- a root that is typed; where no node over a number without a type is settled, it is no such number
pub record IsTypedRoot (settled : Expression → Bool) (registry : Registry) (schema : Columns) (items : List AExpr) (n : ℕ) : Type 0 where
  pub tree : Expression
  pub denotes : Denotes (HoldsExpression items) n tree
  pub typed : Typed
  pub is : typing registry schema tree ≡ Ok typed
  pub known : SettlesNoNumber settled registry schema → is_known typed.type ≡ true

-- all of them are
abbrev pub AreTypedRoots : (Expression → Bool) → Registry → Columns → List AExpr → List ℕ → Type 0
AreTypedRoots settled registry schema items roots = AllByRecursion (IsTypedRoot settled registry schema items) roots

-- What becomes of a root that is a number without a type, or stands over one by aliases: each node is settled, and the
-- expression is like the one that has the type that the number has alone, or it was settled as it was.
pub record EndsTyped (settled : Expression → Bool) (related : Expression → Expression → Type 0) (registry : Registry) (schema : Columns) (items : List AExpr) (n : ℕ) (before : Expression) : Type 0 where
  pub tree : Expression
  pub denotes : Denotes (HoldsExpression items) n tree
  pub each : IsSettled settled tree
  pub like : IsLike related registry schema (with_own_type before) tree ⊎ (tree ≡ before)

-- so of a root that stands alone, where no node over such a number is settled
abbrev pub TypesNumber : (Expression → Bool) → (Expression → Expression → Type 0) → Registry → Columns → List AExpr → List AExpr → List ℕ → Type 0
TypesNumber settled related registry schema old new roots =
    (root : ℕ) (number : ℤ) (many : Bool) (t : Expression) → SettlesNoNumber settled registry schema → roots ≡ root ∷ [] → Denotes (HoldsExpression old) root t → typing registry schema t ≡ Ok (record { type = Untyped number; many = many }) → EndsTyped settled related registry schema new root t

-- the node denotes a number without a type, or what stands over one by aliases
pub record IsNumberRoot (registry : Registry) (schema : Columns) (items : List AExpr) (n : ℕ) : Type 0 where
  pub tree : Expression
  pub denotes : Denotes (HoldsExpression items) n tree
  pub number : ℤ
  pub many : Bool
  pub is : typing registry schema tree ≡ Ok (record { type = Untyped number; many = many })

-- roots that are typed, and numbers without a type to which no other root leads
pub record AreRoots (settled : Expression → Bool) (registry : Registry) (schema : Columns) (items : List AExpr) (roots : List ℕ) : Type 0 where
  pub each : AllByRecursion (λ n. IsTypedRoot settled registry schema items n ⊎ IsNumberRoot registry schema items n) roots
  pub apart : (front back : List ℕ) (m : ℕ) → roots ≡ front ++ m ∷ back → IsNumberRoot registry schema items m → (n : ℕ) → Among (front ++ back) n → ¬ (IsReached items (n ∷ []) m)

-- each node that leads to no root that is such a number denotes what is like the expression that it denoted
abbrev pub StaysLikeBeside : (Expression → Expression → Type 0) → Registry → Columns → List AExpr → List AExpr → List ℕ → Type 0
StaysLikeBeside related registry schema old new roots =
    (n : ℕ) (t : Expression) → Denotes (HoldsExpression old) n t → ((m : ℕ) → Among roots m → IsNumberRoot registry schema old m → ¬ (IsReached old (n ∷ []) m)) → DenotesLike related registry schema new n t

-- A node that leads to no root that gets a type: to no number without a type, by a rule that says how often a node is
-- replaced; by another rule no root is such a number. A rule that calls a node over such a number settled gives it no type.
abbrev pub LeadsToNoNumber : (Expression → Bool) → Option ℕ → Registry → Columns → List AExpr → List ℕ → ℕ → Type 0
LeadsToNoNumber settled turns registry schema items roots n =
    SettlesNoNumber settled registry schema → (m : ℕ) → Among roots m → IsNumberRoot registry schema items m → (limit : ℕ) × (turns ≡ Some limit) × ¬ (IsReached items (n ∷ []) m)

-- each such node that denoted a typed expression denotes one that is like it, whatever the other roots are
abbrev pub StaysLikeTyped : (Expression → Bool) → (Expression → Expression → Type 0) → Option ℕ → Registry → Columns → List AExpr → List AExpr → List ℕ → Type 0
StaysLikeTyped settled related turns registry schema old new roots =
    (n : ℕ) (t : Expression) (typed : Typed) → Denotes (HoldsExpression old) n t → typing registry schema t ≡ Ok typed → LeadsToNoNumber settled turns registry schema old roots n → DenotesLike related registry schema new n t

-- a root ends settled, and where it was such a number, as one of the type that the number has alone
pub record EndsSettled (settled : Expression → Bool) (related : Expression → Expression → Type 0) (registry : Registry) (schema : Columns) (old new : List AExpr) (n : ℕ) : Type 0 where
  pub each : DenotesSettled settled new n
  pub number : (number : ℤ) (many : Bool) (t : Expression) → Denotes (HoldsExpression old) n t → typing registry schema t ≡ Ok (record { type = Untyped number; many = many }) → EndsTyped settled related registry schema new n t

-- what the node denotes has a typing
abbrev pub HasTyping : Registry → Columns → List AExpr → ℕ → Type 0
HasTyping registry schema items n = (t : Expression) → Denotes (HoldsExpression items) n t → (typed : Typed) × (typing registry schema t ≡ Ok typed)

-- the nodes denote finite trees
abbrev pub AreTrees : List AExpr → List ℕ → Type 0
AreTrees items ns = AllByRecursion (DenotesTree (HoldsExpression items)) ns

-- each node that denoted a finite tree denotes one
abbrev pub StaysFinite : List AExpr → List AExpr → Type 0
StaysFinite old new = (n : ℕ) → DenotesTree (HoldsExpression old) n → DenotesTree (HoldsExpression new) n

-- items that the roots don't reach stay
abbrev pub StaysApart : List AExpr → List AExpr → List ℕ → Type 0
StaysApart old new roots =
    (n : ℕ) (op : Op) (inputs : List ℕ) → ¬ (IsReached old roots n) → HoldsExpression old n op inputs → HoldsExpression new n op inputs

-- what the roots reach was added, or they reached it before
abbrev pub ReachesNear : List AExpr → List AExpr → List ℕ → Type 0
ReachesNear old new roots = (n : ℕ) → IsReached new roots n → Near old roots n

-- the roots reach no node twice
pub record AreApart (items : List AExpr) (roots : List ℕ) : Type 0 where
  pub trees : Trees Op
  pub nodes : List ℕ
  pub have : HaveNodes items roots trees nodes
  pub once : AreOnce nodes

-- A refusal comes of the typing of what a node denotes. By a rule that says how often a node is replaced it is one that was
-- added, or that the roots reached.
pub record IsRefusedAt (turns : Option ℕ) (registry : Registry) (schema : Columns) (old new : List AExpr) (roots : List ℕ) (error : PlanError) : Type 0 where
  pub node : ℕ
  pub tree : Expression
  pub denotes : Denotes (HoldsExpression new) node tree
  pub is : IsRefusal (typing registry schema tree) error
  pub near : (n : ℕ) → turns ≡ Some n → Near old roots node

-- Why coercion is refused: it is out of memory, or such a typing is refused. Over typed roots it is the former, and so where
-- some are numbers without a type that stand apart, by a rule that says how often a node is replaced.
pub record IsCoercionRefusal (settled : Expression → Bool) (turns : Option ℕ) (registry : Registry) (schema : Columns) (old new : List AExpr) (roots : List ℕ) (error : PlanError) : Type 0 where
  pub cause : (error ≡ no_memory) ⊎ IsRefusedAt turns registry schema old new roots error
  pub typed : AreTypedRoots settled registry schema old roots → error ≡ no_memory
  pub numbers : (n : ℕ) → turns ≡ Some n → SettlesNoNumber settled registry schema → AreRoots settled registry schema old roots → error ≡ no_memory

-- What the loop over a rule leaves, from roots on, whatever it answers: of the arena what nodes denote, and what the roots
-- don't reach; of the table what is kept; of the steps their count.
pub record LoopLeaves (is_settled : Expression → Bool) (related : Expression → Expression → Type 0) (turns : Option ℕ) (registry : Registry) (schema : Columns) (old new : List AExpr) (roots : List ℕ) (table : TypeTable) (before after : ℕ) : Type 0 where
  pub typed : StaysLikeTyped is_settled related turns registry schema old new roots
  pub like : AreTypedRoots is_settled registry schema old roots → StaysLike related registry schema old new
  pub beside : (n : ℕ) → turns ≡ Some n → SettlesNoNumber is_settled registry schema → AreRoots is_settled registry schema old roots → StaysLikeBeside related registry schema old new roots
  pub finite : StaysFinite old new
  pub elsewhere : (n : ℕ) → turns ≡ Some n → StaysApart old new roots
  pub reaches : (n : ℕ) → turns ≡ Some n → ReachesNear old new roots
  pub longer : length old ≤ length new
  pub right : IsRight registry schema new table
  pub bounded : (n : ℕ) → turns ≡ Some n → AreApart old roots → after ≤ before + (2 * n + 2) * length new

-- What it has done of the roots where it answers Ok.
pub record LoopEnds (is_settled : Expression → Bool) (related : Expression → Expression → Type 0) (turns : Option ℕ) (registry : Registry) (schema : Columns) (old new : List AExpr) (roots : List ℕ) : Type 0 where
  pub roots_typed : AllByRecursion (HasTyping registry schema old) roots
  pub settled : AllByRecursion (DenotesSettled is_settled new) roots
  pub alone : TypesNumber is_settled related registry schema old new roots
  pub ends : (n : ℕ) → turns ≡ Some n → SettlesNoNumber is_settled registry schema → AreRoots is_settled registry schema old roots → AllByRecursion (EndsSettled is_settled related registry schema old new) roots

-- What was kept of types still is after the loop over a rule that never forgets it, from typed roots on.
abbrev pub LoopKeeps : (List AExpr → TypeTable → ℕ → Type 0) → (Expression → Bool) → Registry → Columns → List AExpr → List ℕ → TypeTable → TypeTable → Type 0
LoopKeeps forgets settled registry schema items roots old new =
    NeverForgets forgets → AreTypedRoots settled registry schema items roots → Extends old new

-- where the plan's node is a filter, the schema is the one that goes into it
abbrev pub StaysOver : Registry → List AExpr → List IR → ℕ → Columns → Type 0
StaysOver registry expressions plans n schema =
    (predicate : Named Expression) (into : Columns) → StandsOver registry expressions plans n (FilterKind predicate) into → into ≡ schema

-- the plan's node is settled: it stays, or another was put in its place, by a rule that may do so
abbrev pub IsPlanTurn : (Registry → Columns → PlanKind (Named Expression) → Bool) → Bool → Registry → List AExpr → List IR → List IR → ℕ → Type 0
IsPlanTurn settled replaces registry expressions old new n =
    IsSettledPlan settled registry expressions new n × ((new ≡ old) ⊎ ((replaces ≡ true) × IsPlanReplacement registry expressions old new n))

-- the node denotes the expression with every cast written out, without those that go. It says the same, and is strict
pub record IsWrittenOut (registry : Registry) (schema : Columns) (items : List AExpr) (n : ℕ) (before : Expression) : Type 0 where
  pub tree : Expression
  pub denotes : Denotes (HoldsExpression items) n tree
  pub same : IsSame registry schema before tree
  pub strict : IsStrict registry schema tree
  pub is : tree ≡ written_out registry schema before

-- What coercion leaves of these roots: items below the number stay, and each root denotes what it did, written out.
pub record AreWrittenOut (registry : Registry) (schema : Columns) (first : ℕ) (old new : List AExpr) (roots : List ℕ) : Type 0 where
  pub below : KeepsBelow first old new
  pub each : AllByRecursion (λ n. (t : Expression) → Denotes (HoldsExpression old) n t → IsWrittenOut registry schema new n t) roots
