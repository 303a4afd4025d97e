-- Walks over the two operands of an operator.
use Rattle.std.proofs.Common.{◌≡◌, ◌⊎◌, ◌<◌, ◌≤◌, ℕ, List, [], ◌∷◌, Some, slice_get, ap, subst, inl}
use Rattle.std.specs.List.{AllByRecursion}
use Rattle.plan_dsl.specs.declared.operator.Operator.{Operator}
use Rattle.plan_arena.specs.declared.arena.Node.{Node}
use Rattle.plan_arena.specs.declared.aexpr.AExpr.{AExpr}
use Rattle.plan_arena.specs.declared.aexpr.AExpr.TheVariants.{BinaryExpr}
use Rattle.plan_arena.specs.Denotation.{DenotesTree}
use Rattle.plan_arena.specs.Layers.{inputs_of}
use Rattle.plan_arena.specs.Items.{HoldsExpression, expression_layer}
use Rattle.plan_arena.proofs.ItemLemmas.{expression_inputs}
use Rattle.plan_infer.specs.declared.type_table.TypeTable.{TypeTable}
use Rattle.plan_infer.specs.KeptTypes.{IsKept, node_depth}
use Rattle.plan_infer.proofs.TableLemmas.{below_more, layer_held}

-- a node denotes a tree, and leads less far down
abbrev pub IsBelow : List AExpr → ℕ → ℕ → Type 0
IsBelow items at n = DenotesTree (HoldsExpression items) n × (node_depth items n < node_depth items at)

-- so do all inputs of an item
pub inputs_below : (items : List AExpr) (at : ℕ) (item : AExpr) (ns : List ℕ) → slice_get items at ≡ Some item → DenotesTree (HoldsExpression items) at → inputs_of (expression_layer item) ≡ ns → AllByRecursion (IsBelow items at) ns
inputs_below items at item ns got tree is = subst (AllByRecursion (IsBelow items at)) is (expression_inputs items at _ _ (layer_held items at item got) tree)

-- and both operands of an operator
pub operands_below : (items : List AExpr) (at : ℕ) (item : AExpr) (left : Node) (op : Operator) (right : Node) → slice_get items at ≡ Some item → DenotesTree (HoldsExpression items) at → item ≡ BinaryExpr left op right → IsBelow items at left.0 × IsBelow items at right.0
operands_below items at item left op right got tree is =
    let all = inputs_below items at item (left.0 ∷ right.0 ∷ []) got tree (ap (λ i. inputs_of (expression_layer i)) is) in
    (all.0, all.1.0)

-- what typing the first adds is deeper than the operator, and then what typing the second does
module _ (items : List AExpr) (start mid : TypeTable) (at left : ℕ) (less : node_depth items left < node_depth items at) (first : (n : ℕ) → IsKept mid n → IsKept start n ⊎ (node_depth items n ≤ node_depth items left)) where
  pub below_first : (n : ℕ) → IsKept mid n → IsKept start n ⊎ (node_depth items n < node_depth items at)
  below_first = below_more items start start mid at (λ n kept. inl kept) left less first

  pub below_second : (new : TypeTable) (right : ℕ) → node_depth items right < node_depth items at → ((n : ℕ) → IsKept new n → IsKept mid n ⊎ (node_depth items n ≤ node_depth items right)) → (n : ℕ) → IsKept new n → IsKept start n ⊎ (node_depth items n < node_depth items at)
  below_second new right smaller second = below_more items start mid new at below_first right smaller second
