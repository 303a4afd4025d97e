-- Nodes that stand for the parts of a predicate.
use Rattle.std.proofs.Common.{◌≡◌, ℕ, true, false, cond, List, [], ◌∷◌, ◌++◌, map, Some, slice_get, Result, Ok, Err, OnOk, sym, ap, ◌∙◌, subst}
use Rattle.std.proofs.lemmas.List.{append_assoc, append-nil, map-append}
use Rattle.plan_dsl.specs.Ops.{Expression}
use Rattle.plan_dsl.specs.Plans.{Named}
use Rattle.plan_dsl.specs.Properties.{permits_pushdown}
use Rattle.plan_dsl.specs.Trees.{node, no_more, more}
use Rattle.plan_arena.specs.Denotation.{Denotes, DenoteAll}
use Rattle.plan_arena.specs.Items.{DenoteNamed, HoldsExpression, expression_layer, named_node}
use Rattle.plan_arena.specs.Layers.{inputs_of, op_of}
use Rattle.plan_arena.specs.declared.aexpr.AExpr.{AExpr}
use Rattle.plan_arena.specs.declared.expr_ir.ExprIR.{ExprIR}
use Rattle.plan_arena.proofs.ItemLemmas.{held_top, two_children}
use Rattle.plan_infer.proofs.TableLemmas.{layer_held}
use Rattle.plan_properties.specs.Splitting.{AddsParts, all_conjuncts, conjuncts, is_conjunction, own_named, split_predicate}

pub on_ok : {A E : Type 0} {P Q : Type 0} (result : Result A E) → OnOk result P → (P → Q) → OnOk result Q
on_ok (Ok value) h then = then h
on_ok (Err error) h then = tt

module _ (items : List AExpr) where
  named_joined : (ns ms : List (Named ℕ)) (es fs : List (Named Expression)) → DenoteNamed items ns es → DenoteNamed items ms fs → DenoteNamed items (ns ++ ms) (es ++ fs)
  named_joined [] ms [] fs d g = g
  named_joined [] ms (e ∷ es) fs d g = absurd d
  named_joined (n ∷ ns) ms [] fs d g = absurd d
  named_joined (n ∷ ns) ms (e ∷ es) fs d g = (d.0, d.1, named_joined ns ms es fs d.2 g)

  -- parts behind parts
  both_added : (old mid new : List ExprIR) (ts us : List Expression) → AddsParts items old mid ts → AddsParts items mid new us → AddsParts items old new (ts ++ us)
  both_added old mid new ts us a b =
      record {
        added = a.added ++ b.added;
        longer = b.longer ∙ ap (λ l. l ++ b.added) a.longer ∙ append_assoc old a.added b.added;
        denote = subst (λ ns. DenoteNamed items ns (map own_named (ts ++ us))) (sym (map-append named_node a.added b.added))
            (subst (DenoteNamed items (map named_node a.added ++ map named_node b.added)) (sym (map-append own_named ts us)) (named_joined (map named_node a.added) (map named_node b.added) (map own_named ts) (map own_named us) a.denote b.denote));
      }

  module _ (n : ℕ) (item : AExpr) (got : slice_get items n ≡ Some item) where
    -- those of a conjunction
    pub both_parts : (left right : ℕ) → is_conjunction (op_of (expression_layer item)) ≡ true → inputs_of (expression_layer item) ≡ left ∷ right ∷ [] → (old mid new : List ExprIR)
        → ((t : Expression) → Denotes (HoldsExpression items) left t → AddsParts items old mid (conjuncts t)) → ((t : Expression) → Denotes (HoldsExpression items) right t → AddsParts items mid new (conjuncts t))
        → (t : Expression) → Denotes (HoldsExpression items) n t → AddsParts items old new (conjuncts t)
    both_parts left right is inputs old mid new first second t d =
        let top = held_top items n _ _ (layer_held items n item got) t d in
        let two = two_children (HoldsExpression items) left right top.0 (subst (λ ns. DenoteAll (HoldsExpression items) ns top.0) inputs top.2) in
        let op = op_of (expression_layer item) in
        let joined = both_added old mid new (conjuncts two.0) (conjuncts two.1) (first two.0 two.3) (second two.1 two.4) in
        let tree : t ≡ node op (more two.0 (more two.1 no_more)) = top.1 ∙ ap (node op) two.2 in
        let parts : conjuncts (node op (more two.0 (more two.1 no_more))) ≡ conjuncts two.0 ++ conjuncts two.1 =
        ap (λ b. cond b (all_conjuncts (more two.0 (more two.1 no_more))) (node op (more two.0 (more two.1 no_more)) ∷ [])) is ∙ ap (λ l. conjuncts two.0 ++ l) (append-nil (conjuncts two.1)) in
        subst (AddsParts items old new) (sym (ap conjuncts tree ∙ parts)) joined

    -- any other is its only part
    pub only_part : is_conjunction (op_of (expression_layer item)) ≡ false → (old new : List ExprIR) → ((t : Expression) → Denotes (HoldsExpression items) n t → AddsParts items old new (t ∷ []))
        → (t : Expression) → Denotes (HoldsExpression items) n t → AddsParts items old new (conjuncts t)
    only_part is old new adds t d =
        let top = held_top items n _ _ (layer_held items n item got) t d in
        let op = op_of (expression_layer item) in
        let own : conjuncts (node op top.0) ≡ node op top.0 ∷ [] = ap (λ b. cond b (all_conjuncts top.0) (node op top.0 ∷ [])) is in
        subst (AddsParts items old new) (sym (ap conjuncts top.1 ∙ own ∙ ap (λ t. t ∷ []) (sym top.1))) (adds t d)

  -- a filter that may be moved is split to its parts
  pub is_split : (n : Named ℕ) (parts : List ExprIR) → ((t : Expression) → Denotes (HoldsExpression items) n.expression t → true ≡ permits_pushdown t) → ((t : Expression) → Denotes (HoldsExpression items) n.expression t → AddsParts items [] parts (conjuncts t))
      → (whole : Named Expression) → DenoteNamed items (n ∷ []) (whole ∷ []) → DenoteNamed items (map named_node parts) (split_predicate whole)
  is_split n parts permits adds whole d =
      let tree = whole.expression in
      let a = adds tree d.1 in
      subst (λ b. DenoteNamed items (map named_node parts) (cond b (map own_named (conjuncts tree)) (whole ∷ []))) (permits tree d.1)
      (subst (λ es. DenoteNamed items (map named_node es) (map own_named (conjuncts tree))) (sym a.longer) a.denote)

  -- and any other stays
  pub stays_whole : (n : Named ℕ) (expr : ExprIR) (parts : List ExprIR) → named_node expr ≡ n → parts ≡ expr ∷ [] → ((t : Expression) → Denotes (HoldsExpression items) n.expression t → false ≡ permits_pushdown t)
      → (whole : Named Expression) → DenoteNamed items (n ∷ []) (whole ∷ []) → DenoteNamed items (map named_node parts) (split_predicate whole)
  stays_whole n expr parts is only permits whole d =
      let tree = whole.expression in
      subst (λ b. DenoteNamed items (map named_node parts) (cond b (map own_named (conjuncts tree)) (whole ∷ []))) (permits tree d.1)
      (subst (λ ns. DenoteNamed items ns (whole ∷ [])) (sym (ap (map named_node) only ∙ ap (λ k. k ∷ []) is)) d)
