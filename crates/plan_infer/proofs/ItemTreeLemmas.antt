-- The typing and the name of an item that is handed over by itself, from what is kept of its inputs.
use Rattle.std.proofs.Common.{◌≡◌, ℕ, ◌<◌, ◌&&◌, Bool, List, [], length, take, get_or, Ok, Some, slice_get, codes, sym, ap, ◌∙◌, subst}
use Rattle.std.specs.List.{AllByRecursion}
use Rattle.plan_types.specs.Errors.{IsRefusal}
use Rattle.plan_types.specs.Schemas.{Columns}
use Rattle.plan_types.specs.declared.error.PlanError.{PlanError}
use Rattle.plan_dsl.specs.Names.{Label, first_label, label_of, literal_label, op_label}
use Rattle.plan_dsl.specs.Ops.{Op, Expression}
use Rattle.plan_dsl.specs.Registry.{Registry}
use Rattle.plan_dsl.specs.Trees.{node, no_more, more}
use Rattle.plan_dsl.specs.Typing.{Typed, own_typed, then_typed, typing, typing_rule}
use Rattle.plan_dsl.proofs.TypingLemmas.{ok_same}
use Rattle.plan_arena.specs.declared.aexpr.AExpr.{AExpr}
use Rattle.plan_arena.specs.declared.arena.Node.{Node}
use Rattle.plan_arena.specs.Denotation.{Denotes, DenoteAll, DenotesTree}
use Rattle.plan_arena.specs.Layers.{Layer, layer, op_of, inputs_of}
use Rattle.plan_arena.specs.Items.{HoldsExpression, expression_layer, numbers}
use Rattle.plan_arena.proofs.DenotationLemmas.{all_denote}
use Rattle.plan_arena.proofs.LabelLemmas.{inputs_held, labelled_as_literal, labelled_by_first, op_held}
use Rattle.plan_infer.specs.declared.type_table.Inferred.{Inferred}
use Rattle.plan_infer.specs.declared.type_table.TypeTable.{TypeTable}
use Rattle.plan_infer.specs.ItemTrees.{HasOperands, LayerDenotes}
use Rattle.plan_infer.specs.KeptTypes.{AllKept, IsKept, IsRight, IsRuled, typed_of, typings_at}
use Rattle.plan_infer.proofs.TypingLemmas.{AllRefused, refused_so}
use Rattle.plan_infer.proofs.TableLemmas.{children_kept, child_refused, over_kept, typings_kept}

module _ (registry : Registry) (schema : Columns) (items : List AExpr) (table : TypeTable) (right : IsRight registry schema items table) (item : Layer Op) where
  -- the item's expression is typed by its rule
  item_typing : (typed : List Typed) → AllKept table (inputs_of item) typed → (t : Expression) → LayerDenotes items item t → typing registry schema t ≡ typing_rule registry schema (op_of item) typed
  item_typing typed k (node op ts) d =
      ap (λ o. typing registry schema (node o ts)) (sym d.0)
      ∙ ap (λ r. then_typed r (typing_rule registry schema (op_of item))) (children_kept registry schema items table right (inputs_of item) ts typed d.1 k)

  module _ (ns : List ℕ) (listed : ns ≡ inputs_of item) (known : AllByRecursion (IsKept table) ns) where
    typed_inputs : (typed : List Typed) × AllKept table (inputs_of item) typed
    typed_inputs = typings_kept table (inputs_of item) (subst (AllByRecursion (IsKept table)) listed known)

    -- so it has the typing that the rule says
    pub ruled_item : (own : Inferred) → IsRuled registry schema (op_of item) (typings_at table ns) own → (t : Expression) → LayerDenotes items item t → typing registry schema t ≡ Ok (typed_of own)
    ruled_item own ruled t d =
        let inputs = typed_inputs in
        let says = over_kept (λ ts. IsRuled registry schema (op_of item) ts own) table ns (inputs_of item) listed ruled inputs.0 inputs.1 in
        item_typing inputs.0 inputs.1 t d ∙ ap own_typed says.rules ∙ ap Ok says.is

    -- or is refused as the rule refuses it
    pub refused_item : (error : PlanError) → IsRefusal (typing_rule registry schema (op_of item) (typings_at table ns)) error → (t : Expression) → LayerDenotes items item t → IsRefusal (typing registry schema t) error
    refused_item error refused t d =
        let inputs = typed_inputs in
        let says = over_kept (λ ts. IsRefusal (typing_rule registry schema (op_of item) ts) error) table ns (inputs_of item) listed refused inputs.0 inputs.1 in
        refused_so _ _ error (λ kind e. item_typing inputs.0 inputs.1 t d ∙ e) says

  -- and as its first input that is refused
  pub refused_input : (error : PlanError) (ns : List Node) (i : ℕ) (n : Node) → numbers ns ≡ inputs_of item → AllByRecursion (IsKept table) (numbers (take i ns)) → i < length ns → AllRefused items registry schema (get_or ns i n).0 error → (t : Expression) → LayerDenotes items item t → IsRefusal (typing registry schema t) error
  refused_input error ns i n listed all lt refused (node op ts) d =
      let below = child_refused registry schema items table right error ns i n all lt refused ts (subst (λ ms. DenoteAll (HoldsExpression items) ms ts) (sym listed) d.1) in
      refused_so _ _ error (λ kind e. ap (λ r. then_typed r (typing_rule registry schema op)) e) below

-- an item's expression that is named as its first input, or without one as a literal
module _ (items : List AExpr) (item : Layer Op) where
  module _ (inner : (labels : List Label) → op_label (op_of item) labels ≡ first_label labels) where
    pub named_by_first : (first : ℕ) → slice_get (inputs_of item) 0 ≡ Some first → (label : Label) → ((t : Expression) → Denotes (HoldsExpression items) first t → label ≡ label_of t) → (t : Expression) → LayerDenotes items item t → label ≡ label_of t
    named_by_first first there label named (node op ts) d = labelled_by_first items item inner op ts d.0 d.1 first there label named

    pub named_without_inputs : inputs_of item ≡ [] → (label : Label) → label ≡ literal_label (codes "literal") → (t : Expression) → LayerDenotes items item t → label ≡ label_of t
    named_without_inputs none label is (node op ts) d = labelled_as_literal items item inner op ts d.0 d.1 none label is

-- an item without inputs is the top of one expression
pub leaf_item : (items : List AExpr) (op : Op) (t : Expression) → LayerDenotes items (layer op []) t → t ≡ node op no_more
leaf_item items op (node o no_more) d = ap (λ o. node o no_more) (sym d.0)
leaf_item items op (node o (more t ts)) d = absurd d.1

-- what a node denotes, its item denotes, and its inputs denote trees
module _ (items : List AExpr) (n : ℕ) (item : AExpr) (got : slice_get items n ≡ Some item) where
  pub denoted_layer : (t : Expression) → Denotes (HoldsExpression items) n t → LayerDenotes items (expression_layer item) t
  denoted_layer (node op ts) d = (op_held items n item got op d.0 d.1, inputs_held items n item got op d.0 d.1 ts d.2)

  operands_of_tree : (t : Expression) → Denotes (HoldsExpression items) n t → HasOperands items (expression_layer item)
  operands_of_tree (node op ts) d = all_denote (HoldsExpression items) (inputs_of (expression_layer item)) ts (inputs_held items n item got op d.0 d.1 ts d.2)

  pub denoted_operands : DenotesTree (HoldsExpression items) n → HasOperands items (expression_layer item)
  denoted_operands d = operands_of_tree d.tree d.denotes

-- the flag, by the one typing that the expression has
pub flag_stays : (registry : Registry) (schema : Columns) (t : Expression) (own typed : Typed) (old new : Bool) → new ≡ (old && own.many) → typing registry schema t ≡ Ok own → typing registry schema t ≡ Ok typed → new ≡ (old && typed.many)
flag_stays registry schema t own typed old new flag is also =
    flag ∙ ap (λ (x : Typed). old && x.many) (ok_same (typing registry schema t) own typed is also)
