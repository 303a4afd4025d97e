-- What holds of an expression, from what is asked of its top and holds of its operands.
use Rattle.std.proofs.Common.{◌≡◌, ◌≢◌, ℕ, zero, suc, ◌+◌, ◌<◌, ◌≤◌, get_or, max, Bool, true, false, ◌&&◌, ◌||◌, List, [], ◌∷◌, length, map, take, Option, Some, None, slice_get, refl, sym, ap, ◌∙◌, subst, arith}
use Rattle.std.proofs.Math.Bool.{and-false}
use Rattle.std.proofs.lemmas.List.{length-map, take_all}
use Rattle.std.proofs.lemmas.Option.{slice_get-map}
use Rattle.std.specs.List.{AllByRecursion}
use Rattle.std.specs.Option.{option_map}
use Rattle.plan_dsl.specs.declared.function_expr.FunctionExpr.TheVariants.{IsIn}
use Rattle.plan_dsl.specs.Ops.{Op, AggOp, Expression}
use Rattle.plan_dsl.specs.Properties.{all_hold, all_trees, asks_literal, has_column, has_single_functions, holds_by, is_elementwise, is_literal, literals}
use Rattle.plan_dsl.specs.Trees.{Trees, node, no_more, more, top_op}
use Rattle.plan_arena.specs.declared.aexpr.AExpr.{AExpr}
use Rattle.plan_arena.specs.declared.aexpr.AExpr.TheVariants.{Agg, Len}
use Rattle.plan_arena.specs.Denotation.{Denotes, DenoteAll, DenotesTree, depth_at, greatest}
use Rattle.plan_arena.specs.Items.{HoldsExpression, expression_layer, numbers_named}
use Rattle.plan_arena.specs.Layers.{Layer, layer, op_of, inputs_of, shape_of}
use Rattle.plan_arena.proofs.DenotationLemmas.{depth_of_inputs}
use Rattle.plan_arena.proofs.ItemLemmas.{expression_inputs, expression_laws, held_top, one_child}
use Rattle.plan_arena.proofs.NumberLemmas.{all_joined, all_weaker, taken_more}
use Rattle.plan_infer.specs.ItemTrees.{LayerDenotes}
use Rattle.plan_infer.proofs.TableLemmas.{layer_held}
use Rattle.plan_arena.specs.declared.arena.Node.{Node}
use Rattle.plan_arena.specs.declared.expr_ir.ExprIR.{ExprIR}
use Rattle.plan_properties.specs.Asking.{AllDenote, SaysOfNode, is_literal_item, literals_at}
use Rattle.plan_properties.specs.Properties.{can_pre_agg, merges}

-- ---- operands

-- what holds of each holds of all
pub all_said : (items : List AExpr) (test : Expression → Bool) (ns : List ℕ) → AllByRecursion (λ n. SaysOfNode items n test true) ns → (ts : Trees Op) → DenoteAll (HoldsExpression items) ns ts → true ≡ all_trees test ts
all_said items test [] said no_more d = refl
all_said items test [] said (more t ts) d = absurd d
all_said items test (n ∷ ns) said no_more d = absurd d
all_said items test (n ∷ ns) said (more t ts) d = λ i. said.0 t d.0 i && all_said items test ns said.1 ts d.1 i

-- and what doesn't hold of one doesn't
pub one_unsaid : (items : List AExpr) (test : Expression → Bool) (ns : List ℕ) (i n : ℕ) → slice_get ns i ≡ Some n → SaysOfNode items n test false → (ts : Trees Op) → DenoteAll (HoldsExpression items) ns ts → false ≡ all_trees test ts
one_unsaid items test [] i n there says ts d = cc
one_unsaid items test (m ∷ ns) zero n there says no_more d = absurd d
one_unsaid items test (m ∷ ns) zero n there says (more t ts) d =
    let same : m ≡ n = cc in
    let here : false ≡ test t = subst (λ k. SaysOfNode items k test false) (sym same) says t d.0 in
    ap (λ b. b && all_trees test ts) here
one_unsaid items test (m ∷ ns) (suc i) n there says no_more d = absurd d
one_unsaid items test (m ∷ ns) (suc i) n there says (more t ts) d =
    sym (and-false (test t)) ∙ ap (λ b. test t && b) (one_unsaid items test ns i n there says ts d.1)

-- one more of those in front
pub said_more : (P : ℕ → Type 0) (ns : List ℕ) (i k n : ℕ) → k ≡ suc i → slice_get ns i ≡ Some n → AllByRecursion P (take i ns) → P n → AllByRecursion P (take k ns)
said_more P ns i k n e there all p =
    subst (λ k. AllByRecursion P (take k ns)) (sym e) (subst (AllByRecursion P) (sym (taken_more ns i n there)) (all_joined P (take i ns) (n ∷ []) all (p, tt)))

pub said_whole : (P : ℕ → Type 0) (ns : List ℕ) (i : ℕ) → length ns ≤ i → AllByRecursion P (take i ns) → AllByRecursion P ns
said_whole P ns i le all = subst (AllByRecursion P) (take_all i ns le) all

-- an operand leads no further down than the furthest
pub at_most_greatest : (value : ℕ → ℕ) (ns : List ℕ) (i n : ℕ) → slice_get ns i ≡ Some n → value n ≤ greatest value ns
at_most_greatest value [] i n there = cc
at_most_greatest value (m ∷ ns) zero n there = let same : m ≡ n = cc in subst (λ k. value k ≤ max (value m) (greatest value ns)) same (omega arith)
at_most_greatest value (m ∷ ns) (suc i) n there = let rest = at_most_greatest value ns i n there in omega (arith, rest)

-- ---- the top

held_by_all : (s : Op → Bool) (g : Op → List Bool → Bool) (ts : Trees Op) → all_hold s g ts ≡ all_trees (holds_by s g) ts
held_by_all s g no_more = refl
held_by_all s g (more t ts) = ap (λ b. holds_by s g t && b) (held_by_all s g ts)

-- which operands are literals, in the arena and of what is denoted
literal_at : (items : List AExpr) (n : ℕ) (t : Expression) → Denotes (HoldsExpression items) n t → is_literal_item (slice_get items n) ≡ is_literal (top_op t)
literal_at items n (node op ts) d =
    elim (slice_get items n) as (λ (o : Option AExpr). option_map expression_layer o ≡ Some (layer op d.0) → is_literal_item o ≡ is_literal op) [
      | None ↦ λ e. cc
      | Some item ↦ λ e. let same : expression_layer item ≡ layer op d.0 = cc in ap (λ l. is_literal (op_of l)) same
    ] (sym (slice_get-map expression_layer items n) ∙ d.1)

literals_are : (items : List AExpr) (ns : List ℕ) (ts : Trees Op) → DenoteAll (HoldsExpression items) ns ts → literals_at items ns ≡ literals ts
literals_are items [] no_more d = refl
literals_are items [] (more t ts) d = absurd d
literals_are items (n ∷ ns) no_more d = absurd d
literals_are items (n ∷ ns) (more t ts) d = λ i. literal_at items n t d.0 i ∷ literals_are items ns ts d.1 i

-- what is asked of the second operand
pub second_asked : (items : List AExpr) (ns : List ℕ) (n : ℕ) → slice_get ns 1 ≡ Some n → is_literal_item (slice_get items n) ≡ asks_literal IsIn (literals_at items ns)
second_asked items [] n there = cc
second_asked items (value ∷ []) n there = cc
second_asked items (value ∷ among ∷ others) n there = let same : among ≡ n = cc in ap (λ k. is_literal_item (slice_get items k)) (sym same)

module _ (s : Op → Bool) (g : Op → List Bool → Bool) (items : List AExpr) (item : Layer Op) where
  -- it is settled
  pub settled : true ≡ s (op_of item) → (t : Expression) → LayerDenotes items item t → true ≡ holds_by s g t
  settled is (node op ts) d = ap (λ b. b || (g op (literals ts) && all_hold s g ts)) (is ∙ ap s d.0)

  handed : (answer : Bool) → answer ≡ g (op_of item) (literals_at items (inputs_of item)) → (op : Op) (ts : Trees Op) → LayerDenotes items item (node op ts) → answer ≡ g op (literals ts)
  handed answer goes op ts d = goes ∙ (λ i. g (d.0 i) (literals_are items (inputs_of item) ts d.1 i))

  -- it is not handed on
  pub stopped : false ≡ s (op_of item) → false ≡ g (op_of item) (literals_at items (inputs_of item)) → (t : Expression) → LayerDenotes items item t → false ≡ holds_by s g t
  stopped is stops (node op ts) d = λ i. (is ∙ ap s d.0) i || (handed false stops op ts d i && all_hold s g ts)

  -- it is, and what holds of all operands holds
  pub handed_on : (answer : Bool) → false ≡ s (op_of item) → true ≡ g (op_of item) (literals_at items (inputs_of item)) → ((ts : Trees Op) → DenoteAll (HoldsExpression items) (inputs_of item) ts → answer ≡ all_trees (holds_by s g) ts)
      → (t : Expression) → LayerDenotes items item t → answer ≡ holds_by s g t
  handed_on answer is goes says (node op ts) d =
      says ts d.1 ∙ sym (held_by_all s g ts) ∙ (λ i. (is ∙ ap s d.0) i || (handed true goes op ts d i && all_hold s g ts))

module _ (items : List AExpr) (n : ℕ) (item : AExpr) (got : slice_get items n ≡ Some item) where
  -- what is said of an item's expression is said of that at its node
  pub of_node : (test : Expression → Bool) (answer : Bool) → ((t : Expression) → LayerDenotes items (expression_layer item) t → answer ≡ test t) → (t : Expression) → Denotes (HoldsExpression items) n t → answer ≡ test t
  of_node test answer says t d =
      let top = held_top items n _ _ (layer_held items n item got) t d in
      says (node (op_of (expression_layer item)) top.0) (refl, top.2) ∙ ap test (sym top.1)

  -- its inputs denote expressions, which lead less far down
  pub operands_denote : DenotesTree (HoldsExpression items) n → AllDenote items (inputs_of (expression_layer item))
  operands_denote d = all_weaker _ (DenotesTree (HoldsExpression items)) (λ m both. both.0) _ (expression_inputs items n _ _ (layer_held items n item got) d)

  pub depth_over : DenotesTree (HoldsExpression items) n → depth_at (shape_of (map expression_layer items)) n ≡ 1 + greatest (depth_at (shape_of (map expression_layer items))) (inputs_of (expression_layer item))
  depth_over d = depth_of_inputs (shape_of (map expression_layer items)) (HoldsExpression items) (expression_laws items) n _ _ (layer_held items n item got) d

-- ---- aggregates of parts

pub counts_rows : (items : List AExpr) (item : AExpr) → item ≡ Len → (t : Expression) → LayerDenotes items (expression_layer item) t → true ≡ can_pre_agg t
counts_rows items item is (node op ts) d = ap (λ o. can_pre_agg (node o ts)) (sym (ap (λ i. op_of (expression_layer i)) is) ∙ d.0)

-- by its method and its operand
pub aggregates : (items : List AExpr) (item : Layer Op) (method : _) (n : ℕ) (answer : Bool) → op_of item ≡ AggOp method → inputs_of item ≡ n ∷ []
    → ((t : Expression) → Denotes (HoldsExpression items) n t → answer ≡ (merges method && (is_elementwise t && (has_single_functions t && has_column t))))
    → (t : Expression) → LayerDenotes items item t → answer ≡ can_pre_agg t
aggregates items item method n answer op_is inputs_are says (node op ts) d =
    let only = one_child (HoldsExpression items) n ts (subst (λ ns. DenoteAll (HoldsExpression items) ns ts) inputs_are d.1) in
    says only.0 only.2 ∙ (λ i. can_pre_agg (node ((sym op_is ∙ d.0) i) (sym only.1 i)))

pub no_aggregate : (items : List AExpr) (item : AExpr) → item ≢ Len → ((aggregate : _) → item ≢ Agg aggregate) → (t : Expression) → LayerDenotes items (expression_layer item) t → false ≡ can_pre_agg t
no_aggregate items Len not_len not_agg t d = absurd (not_len refl)
no_aggregate items (Agg aggregate) not_len not_agg t d = absurd (not_agg aggregate refl)
no_aggregate items item not_len not_agg (node op ts) d = ap (λ o. can_pre_agg (node o ts)) d.0

-- ---- recorded expressions

-- the node of one
pub node_there : (exprs : List ExprIR) (i : ℕ) (expr : ExprIR) (n : Node) → i < length exprs → expr ≡ get_or exprs i expr → n.0 ≡ expr.node.0 → slice_get (numbers_named exprs) i ≡ Some n.0
node_there [] i expr n lt is same = absurd (omega (arith, lt))
node_there (e ∷ es) zero expr n lt is same = ap Some (sym (same ∙ ap (λ (e : ExprIR). e.node.0) is))
node_there (e ∷ es) (suc i) expr n lt is same = node_there es i expr n (omega (arith, lt)) is same

pub nodes_whole : (P : ℕ → Type 0) (exprs : List ExprIR) (i : ℕ) → length exprs ≤ i → AllByRecursion P (take i (numbers_named exprs)) → AllByRecursion P (numbers_named exprs)
nodes_whole P exprs i past all = said_whole P (numbers_named exprs) i (omega (arith, past, length-map exprs (λ (expr : ExprIR). expr.node.0))) all
