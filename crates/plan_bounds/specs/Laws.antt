-- Bounds on what coercion adds to an expression.
use Rattle.std.specs.Prelude.{◌≡◌, ◌≤◌, ◌+◌, ℕ, Bool, true, false, List, length, Ok, sum_by, IsTrue}
use Rattle.std.specs.List.{AllByRecursion}
use Rattle.plan_types.specs.Schemas.{Columns}
use Rattle.plan_dsl.specs.declared.expr.Expr.{Expr}
use Rattle.plan_dsl.specs.Aliases.{core, spelled}
use Rattle.plan_dsl.specs.Counts.{expression_casts, outputs_casts}
use Rattle.plan_dsl.specs.Expressions.{plain_tree}
use Rattle.plan_dsl.specs.InlinedCasts.{written_out}
use Rattle.plan_dsl.specs.Literals.{settled}
use Rattle.plan_dsl.specs.Ops.{Expression}
use Rattle.plan_dsl.specs.Plans.{Named}
use Rattle.plan_dsl.specs.Registry.{Registry}
use Rattle.plan_dsl.specs.Typing.{Typed, typing}
use Rattle.plan_properties.specs.Splitting.{IsCondition, split_predicate}
use Rattle.plan_bounds.specs.Counts.{needed_casts, other_nodes, idle_casts}
use Rattle.plan_bounds.specs.LoweredPlans.{has_wide_horizontals}

-- a typed expression with every cast written out, without those that can be told, has no more casts than it needs
abbrev pub AddsNeededCasts : Type 0
AddsNeededCasts =
    (registry : Registry) (schema : Columns) (tree : Expression) (typed : Typed) → typing registry schema tree ≡ Ok typed
    → expression_casts (written_out registry schema tree) ≤ needed_casts false registry schema tree

-- no more other nodes than before
abbrev pub AddsNoNode : Type 0
AddsNoNode =
    (registry : Registry) (schema : Columns) (tree : Expression) (typed : Typed) → typing registry schema tree ≡ Ok typed
    → other_nodes false (written_out registry schema tree) ≤ other_nodes false tree

-- no more casts to the type that is there
abbrev pub AddsNoIdleCast : Type 0
AddsNoIdleCast =
    (registry : Registry) (schema : Columns) (tree : Expression) (typed : Typed) → typing registry schema tree ≡ Ok typed
    → idle_casts false registry schema (written_out registry schema tree) ≤ idle_casts false registry schema tree

-- and no horizontal but wide ones where there was no other
abbrev pub LeavesWideHorizontals : Type 0
LeavesWideHorizontals =
    (registry : Registry) (schema : Columns) (tree : Expression) (typed : Typed) → typing registry schema tree ≡ Ok typed
    → IsTrue (has_wide_horizontals tree) → IsTrue (has_wide_horizontals (written_out registry schema tree))

-- there is no other in a query's expression as a lowered plan takes it
abbrev pub TakenHorizontalsAreWide : Type 0
TakenHorizontalsAreWide = (expr : Expr) → IsTrue (has_wide_horizontals (settled (spelled (plain_tree expr))))

-- what a query's typed expression has with its horizontals written out is no more than what they count for as nodes
pub record SpelledIsCounted (registry : Registry) (schema : Columns) (tree : Expression) : Type 0 where
  pub casts : needed_casts false registry schema (spelled tree) ≤ needed_casts true registry schema (core tree)
  pub other_nodes : other_nodes false (spelled tree) ≤ other_nodes true (core tree)
  pub idle : idle_casts false registry schema (spelled tree) ≤ idle_casts true registry schema (core tree)

abbrev pub WritingOutIsCounted : Type 0
WritingOutIsCounted =
    (registry : Registry) (schema : Columns) (tree : Expression) (typed : Typed) → typing registry schema (core tree) ≡ Ok typed
    → IsTrue (has_wide_horizontals (spelled tree)) → SpelledIsCounted registry schema tree

-- a number without a type at the top that gets one, as a plan's node takes it, adds no cast, no node and no idle cast
abbrev pub SettlingAddsNothing : Type 0
SettlingAddsNothing =
    (write : Bool) (registry : Registry) (schema : Columns) (tree : Expression)
    → (expression_casts (settled tree) ≡ expression_casts tree) × (other_nodes write (settled tree) ≡ other_nodes write tree) × (idle_casts write registry schema (settled tree) ≡ idle_casts write registry schema tree)

-- how many there are in all of some expressions
abbrev pub in_all : (Expression → ℕ) → List (Named Expression) → ℕ
in_all count es = sum_by (λ e. count e.expression) es

-- the parts to which a filter is split have the casts of the whole
abbrev pub SplittingKeepsCasts : Type 0
SplittingKeepsCasts = (predicate : Named Expression) → outputs_casts (split_predicate predicate) ≡ expression_casts predicate.expression

-- no more other nodes
abbrev pub SplittingAddsNoNode : Type 0
SplittingAddsNoNode = (predicate : Named Expression) → in_all (other_nodes false) (split_predicate predicate) ≤ other_nodes false predicate.expression

-- no horizontal but wide ones where there was no other
abbrev pub SplittingLeavesWideHorizontals : Type 0
SplittingLeavesWideHorizontals = (predicate : Named Expression) → IsTrue (has_wide_horizontals predicate.expression) → AllByRecursion (λ part. IsTrue (has_wide_horizontals part.expression)) (split_predicate predicate)

-- with a filter for each part of a condition in place of one, no more nodes at all
abbrev pub SplittingKeepsSize : Type 0
SplittingKeepsSize =
    (registry : Registry) (schema : Columns) (predicate : Named Expression) → IsCondition registry schema predicate.expression
    → in_all (other_nodes false) (split_predicate predicate) + length (split_predicate predicate) ≤ other_nodes false predicate.expression + 1

-- and as many casts to the type that is there
abbrev pub SplittingKeepsIdleCasts : Type 0
SplittingKeepsIdleCasts =
    (registry : Registry) (schema : Columns) (predicate : Named Expression) → in_all (idle_casts false registry schema) (split_predicate predicate) ≡ idle_casts false registry schema predicate.expression
