-- What is asked of expressions, and nodes of which something holds.
use Rattle.std.specs.Prelude.{◌≡◌, ℕ, Bool, false, List, map, Option, Some, None, slice_get}
use Rattle.std.specs.List.{AllByRecursion}
use Rattle.plan_dsl.specs.Ops.{Op, Expression}
use Rattle.plan_dsl.specs.Properties.{all_trees, gives_one, holds_by, is_literal, is_no_column, is_own_elementwise, is_own_harmless, is_own_single, keeps_one, never, over_any}
use Rattle.plan_dsl.specs.Trees.{Trees}
use Rattle.plan_arena.specs.declared.aexpr.AExpr.{AExpr}
use Rattle.plan_arena.specs.Denotation.{Denotes, DenoteAll, DenotesTree}
use Rattle.plan_arena.specs.Items.{HoldsExpression, expression_layer}
use Rattle.plan_arena.specs.Layers.{Layer, op_of}
use Rattle.plan_infer.specs.ItemTrees.{LayerDenotes}
use Rattle.plan_properties.specs.declared.asked.Asked.{Asked}
use Rattle.plan_properties.specs.declared.asked.Asked.TheVariants.{Elementwise, Harmless, Scalar, Single, Columnless}

-- the ops that settle what is asked, and those that hand it on
abbrev pub settles : Asked → Op → Bool
settles Elementwise = never
settles Harmless = never
settles Scalar = gives_one
settles Single = never
settles Columnless = never

abbrev pub hands_on : Asked → Op → List Bool → Bool
hands_on Elementwise = is_own_elementwise
hands_on Harmless = is_own_harmless
hands_on Scalar = over_any keeps_one
hands_on Single = is_own_single
hands_on Columnless = over_any is_no_column

-- which nodes of an arena are literals. One that isn't there is none
abbrev pub is_literal_item : Option AExpr → Bool
is_literal_item None = false
is_literal_item (Some item) = is_literal (op_of (expression_layer item))

abbrev pub literals_at : List AExpr → List ℕ → List Bool
literals_at items ns = map (λ n. is_literal_item (slice_get items n)) ns

-- what is asked holds of an expression
abbrev pub holds_of : Asked → Expression → Bool
holds_of asked = holds_by (settles asked) (hands_on asked)

-- the answer is that of the expression at the node, of an item's, and of all that are denoted
abbrev pub SaysOfNode : List AExpr → ℕ → (Expression → Bool) → Bool → Type 0
SaysOfNode items n test answer = (tree : Expression) → Denotes (HoldsExpression items) n tree → answer ≡ test tree

abbrev pub SaysOfItem : List AExpr → Layer Op → (Expression → Bool) → Bool → Type 0
SaysOfItem items item test answer = (tree : Expression) → LayerDenotes items item tree → answer ≡ test tree

abbrev pub SaysOfAll : List AExpr → List ℕ → (Expression → Bool) → Bool → Type 0
SaysOfAll items ns test answer = (trees : Trees Op) → DenoteAll (HoldsExpression items) ns trees → answer ≡ all_trees test trees

-- each node denotes an expression
abbrev pub AllDenote : List AExpr → List ℕ → Type 0
AllDenote items ns = AllByRecursion (DenotesTree (HoldsExpression items)) ns
