-- Names of nodes, with what they come from.
use Rattle.std.proofs.Common.{◌≡◌, ℕ, ◌<◌, List, [], ◌∷◌, map, Some, None, slice_get, codes, refl, sym, ap, ◌∙◌, subst}
use Rattle.plan_dsl.specs.Trees.{Trees, node, no_more, more, fold_all}
use Rattle.plan_dsl.specs.Names.{Label, column_label, first_label, label_of, literal_label, op_label}
use Rattle.plan_dsl.specs.Ops.{Op, Expression}
use Rattle.plan_arena.specs.declared.aexpr.AExpr.{AExpr}
use Rattle.plan_arena.specs.Denotation.{Denotes, DenoteAll, DenotesTree, depth_at}
use Rattle.plan_arena.specs.Layers.{Layer, layer, op_of, inputs_of, shape_of}
use Rattle.plan_arena.specs.Items.{AreNamesOver, expression_layer, HoldsExpression}
use Rattle.plan_arena.proofs.DenotationLemmas.{some_same}
use Rattle.plan_arena.proofs.ItemLemmas.{expression_got, expression_inputs}

first_there : (inputs : List ℕ) (first : ℕ) → slice_get inputs 0 ≡ Some first → (rest : List ℕ) × (inputs ≡ first ∷ rest)
first_there [] first there = cc
first_there (n ∷ ns) first there = let same : n ≡ first = cc in (ns, ap (λ k. k ∷ ns) same)

none_there : (inputs : List ℕ) → slice_get inputs 0 ≡ None → inputs ≡ []
none_there [] there = refl
none_there (n ∷ ns) there = cc

two_labels : (label : Label) → column_label [] ≡ label → column_label (0 ∷ []) ≡ label → ⊥
two_labels label e f = let none : List ℕ = [] in let g : none ≡ 0 ∷ [] = ap (λ (l : Label). l.name) (e ∙ sym f) in cc

-- one that has a name of its own doesn't have that of its first input
pub not_by_first : (name : List Label → Label) (label : Label) → ((labels : List Label) → name labels ≡ label) → ((labels : List Label) → name labels ≡ first_label labels) → ⊥
not_by_first name label own first =
    two_labels label (sym (first (column_label [] ∷ [])) ∙ own (column_label [] ∷ [])) (sym (first (column_label (0 ∷ []) ∷ [])) ∙ own (column_label (0 ∷ []) ∷ []))

-- one that has it, and that of none of its inputs, is without inputs, and is named as a literal
pub named_as_literal : (name : List Label → Label) (inputs : List ℕ) (label : Label) → ((labels : List Label) → AreNamesOver inputs labels → name labels ≡ label) → ((labels : List Label) → name labels ≡ first_label labels) → (labels : List Label) → AreNamesOver inputs labels → name labels ≡ literal_label (codes "literal")
named_as_literal name [] label own first labels over = first labels ∙ ap first_label over
named_as_literal name (n ∷ ns) label own first labels over = absurd (not_by_first name label (λ others. own others tt) first)

-- no names are those of inputs, where none is asked for
pub none_over : (inputs : List ℕ) → AreNamesOver inputs []
none_over [] = refl
none_over (n ∷ ns) = tt

-- so are the names of what inputs denote
pub labels_over : (items : List AExpr) (inputs : List ℕ) (ts : Trees Op) → DenoteAll (HoldsExpression items) inputs ts → AreNamesOver inputs (fold_all op_label ts)
labels_over items [] no_more d = refl
labels_over items [] (more t ts) d = absurd d
labels_over items (n ∷ ns) ts d = tt

module _ (items : List AExpr) where
  first_child : (first : ℕ) (rest : List ℕ) (ts : Trees Op) (label : Label) → DenoteAll (HoldsExpression items) (first ∷ rest) ts → ((t : Expression) → Denotes (HoldsExpression items) first t → label ≡ label_of t) → label ≡ first_label (fold_all op_label ts)
  first_child first rest (more t ts) label d named = named t d.0
  first_child first rest no_more label d named = absurd d

  no_child : (ts : Trees Op) → DenoteAll (HoldsExpression items) [] ts → first_label (fold_all op_label ts) ≡ literal_label (codes "literal")
  no_child no_more d = refl
  no_child (more t ts) d = absurd d

-- what an item denotes, by its op and its inputs
module _ (items : List AExpr) (item : Layer Op) where
  -- it has a name of its own
  own_labelled : (label : Label) → ((labels : List Label) → op_label (op_of item) labels ≡ label) → (op : Op) (ts : Trees Op) → op_of item ≡ op → label ≡ label_of (node op ts)
  own_labelled label own op ts is = sym (own (fold_all op_label ts)) ∙ ap (λ o. op_label o (fold_all op_label ts)) is

  -- or that of its first input
  module _ (inner : (labels : List Label) → op_label (op_of item) labels ≡ first_label labels) (op : Op) (ts : Trees Op) (is : op_of item ≡ op) (d : DenoteAll (HoldsExpression items) (inputs_of item) ts) where
    by_first : label_of (node op ts) ≡ first_label (fold_all op_label ts)
    by_first = ap (λ o. op_label o (fold_all op_label ts)) (sym is) ∙ inner (fold_all op_label ts)

    pub labelled_by_first : (first : ℕ) → slice_get (inputs_of item) 0 ≡ Some first → (label : Label) → ((t : Expression) → Denotes (HoldsExpression items) first t → label ≡ label_of t) → label ≡ label_of (node op ts)
    labelled_by_first first there label named =
        let split = first_there (inputs_of item) first there in
        first_child items first split.0 ts label (subst (λ ns. DenoteAll (HoldsExpression items) ns ts) split.1 d) named ∙ sym by_first

    -- one without inputs is named as a literal
    pub labelled_as_literal : inputs_of item ≡ [] → (label : Label) → label ≡ literal_label (codes "literal") → label ≡ label_of (node op ts)
    labelled_as_literal none label is = is ∙ sym (no_child items ts (subst (λ ns. DenoteAll (HoldsExpression items) ns ts) none d)) ∙ sym by_first

-- so has a node that has it
module _ (items : List AExpr) (n : ℕ) (item : AExpr) (got : slice_get items n ≡ Some item) where
  held : (op : Op) (inputs : List ℕ) → HoldsExpression items n op inputs → expression_layer item ≡ layer op inputs
  held op inputs h = some_same (slice_get (map expression_layer items) n) (expression_layer item) (layer op inputs) (expression_got items n item got) h

  -- what the node denotes has the item's op over what the item's inputs denote
  pub op_held : (op : Op) (inputs : List ℕ) → HoldsExpression items n op inputs → op_of (expression_layer item) ≡ op
  op_held op inputs h = ap op_of (held op inputs h)

  pub inputs_held : (op : Op) (inputs : List ℕ) → HoldsExpression items n op inputs → (ts : Trees Op) → DenoteAll (HoldsExpression items) inputs ts → DenoteAll (HoldsExpression items) (inputs_of (expression_layer item)) ts
  inputs_held op inputs h ts d = subst (λ ns. DenoteAll (HoldsExpression items) ns ts) (sym (ap inputs_of (held op inputs h))) d

  pub own_label : (label : Label) → ((labels : List Label) → op_label (op_of (expression_layer item)) labels ≡ label) → (t : Expression) → Denotes (HoldsExpression items) n t → label ≡ label_of t
  own_label label own (node op ts) d = own_labelled items (expression_layer item) label own op ts (op_held op d.0 d.1)

  module _ (inner : (labels : List Label) → op_label (op_of (expression_layer item)) labels ≡ first_label labels) where
    pub named_by_first : (first : ℕ) → slice_get (inputs_of (expression_layer item)) 0 ≡ Some first → (label : Label) → ((t : Expression) → Denotes (HoldsExpression items) first t → label ≡ label_of t) → (t : Expression) → Denotes (HoldsExpression items) n t → label ≡ label_of t
    named_by_first first there label named (node op ts) d =
        labelled_by_first items (expression_layer item) inner op ts (op_held op d.0 d.1) (inputs_held op d.0 d.1 ts d.2) first there label named

    pub named_without_inputs : slice_get (inputs_of (expression_layer item)) 0 ≡ None → (label : Label) → label ≡ literal_label (codes "literal") → (t : Expression) → Denotes (HoldsExpression items) n t → label ≡ label_of t
    named_without_inputs there label is (node op ts) d =
        labelled_as_literal items (expression_layer item) inner op ts (op_held op d.0 d.1) (inputs_held op d.0 d.1 ts d.2) (none_there (inputs_of (expression_layer item)) there) label is

  first_denotes : (first : ℕ) (t : Expression) → slice_get (inputs_of (expression_layer item)) 0 ≡ Some first → Denotes (HoldsExpression items) n t → DenotesTree (HoldsExpression items) first × (depth_at (shape_of (map expression_layer items)) first < depth_at (shape_of (map expression_layer items)) n)
  first_denotes first (node op ts) there d =
      let split = first_there (inputs_of (expression_layer item)) first there in
      let inputs = sym (ap inputs_of (held op d.0 d.1)) ∙ split.1 in
      (expression_inputs items n op (first ∷ split.0) (subst (λ ns. HoldsExpression items n op ns) inputs d.1) (record { tree = node op ts; denotes = d })).0

  -- the first input denotes a tree, and leads less far down
  pub first_leads_down : (first : ℕ) → slice_get (inputs_of (expression_layer item)) 0 ≡ Some first → DenotesTree (HoldsExpression items) n → DenotesTree (HoldsExpression items) first × (depth_at (shape_of (map expression_layer items)) first < depth_at (shape_of (map expression_layer items)) n)
  first_leads_down first there d = first_denotes first d.tree there d.denotes
