-- A root that is a number without a type, by itself on the stack.
use Rattle.std.proofs.Common.{◌≡◌, ℕ, ℤ, Bool, true, false, List, [], ◌∷◌, ◌++◌, map, reverse, Option, Ok, refl, sym, ap, ◌∙◌, subst, inl, inr}
use Rattle.std.specs.List.{AllByRecursion}
use Rattle.plan_types.specs.Types.{Untyped, is_known}
use Rattle.plan_types.specs.Schemas.{Columns}
use Rattle.plan_dsl.specs.Registry.{Registry}
use Rattle.plan_dsl.specs.Literals.{settled}
use Rattle.plan_dsl.specs.Trees.{Trees, node, no_more, more}
use Rattle.plan_dsl.specs.Ops.{Op, Expression}
use Rattle.plan_dsl.specs.Typing.{Typed, typing, typing_all, typed_before}
use Rattle.plan_dsl.proofs.LiteralLemmas.{bare, number_node, under}
use Rattle.plan_coerce.proofs.CoercionRuleLemmas.{number_alone}
use Rattle.plan_dsl.proofs.TypingLemmas.{ok_same, typed_parts}
use Rattle.plan_arena.specs.declared.aexpr.AExpr.{AExpr}
use Rattle.plan_arena.specs.Denotation.{Denotes, DenoteAll}
use Rattle.plan_arena.specs.Layers.{shape_of}
use Rattle.plan_arena.specs.Items.{HoldsExpression, expression_layer}
use Rattle.plan_arena.proofs.DenotationLemmas.{denotes_one, kept}
use Rattle.plan_arena.proofs.ItemLemmas.{expression_laws, grown_held}
use Rattle.plan_coerce.specs.Optimizer.{EndsTyped, IsSettled, IsTypedRoot}
use Rattle.plan_coerce.specs.Rules.{IsCongruent, IsLike, IsSteady, IsTransitive, SettlesNoNumber}
use Rattle.plan_coerce.specs.Turns.{IsFound, IsPlaced, IsTurn, finds, places}
use Rattle.plan_coerce.proofs.SettledLemmas.{known_typings, number_settled}
use Rattle.plan_coerce.proofs.TurnLemmas.{found_grows, Pending, all_ended, like_then, pending_start, pending_turn, top_first, inputs_first}

-- such a root waits, or it has got a type and is settled but for what waits, or it was found settled
pub data Alone (is_settled : Expression → Bool) (related : Expression → Expression → Type 0) (registry : Registry) (schema : Columns) (items : List AExpr) (tops : List ℕ) (root : ℕ) (t : Expression) : Type 0 where
  waits : tops ≡ root ∷ [] → Denotes (HoldsExpression items) root t → Alone is_settled related registry schema items tops root t
  goes_on : (mid : List AExpr) (v : Expression) (own : Typed) → Denotes (HoldsExpression mid) root v → IsLike related registry schema (settled t) v → typing registry schema v ≡ Ok own → is_known own.type ≡ true → Pending is_settled related registry schema mid items tops (root ∷ []) → Alone is_settled related registry schema items tops root t
  is_found : tops ≡ [] → Denotes (HoldsExpression items) root t → IsSettled is_settled t → Alone is_settled related registry schema items tops root t

same_top : (a b : ℕ) (xs : List ℕ) → a ∷ xs ≡ b ∷ [] → a ≡ b
same_top a b xs e = cc

no_rest : (a b : ℕ) (xs : List ℕ) → a ∷ xs ≡ b ∷ [] → xs ≡ []
no_rest a b xs e = cc

no_top : (a : ℕ) (xs : List ℕ) → a ∷ xs ≡ [] → ⊥
no_top a xs e = cc

-- a node has no inputs where its tree has no children
pub no_inputs : (items : List AExpr) (ns : List ℕ) (ts : Trees Op) → ts ≡ no_more → DenoteAll (HoldsExpression items) ns ts → ns ≡ []
no_inputs items [] ts e d = refl
no_inputs items (n ∷ ns) no_more e d = absurd d
no_inputs items (n ∷ ns) (more t ts) e d = cc

module _ (is_settled : Expression → Bool) (measure : Expression → ℕ) (related : Expression → Expression → Type 0) (turns : Option ℕ) (registry : Registry) (schema : Columns) (congruent : IsCongruent related registry schema) (transitive : IsTransitive related) (steady : IsSteady is_settled related registry schema) (none : SettlesNoNumber is_settled registry schema) (root : ℕ) (number : ℤ) (many : Bool) where
  -- a number that is settled has no inputs
  pub settled_bare : (op : Op) (ts : Trees Op) → typing registry schema (node op ts) ≡ Ok (record { type = Untyped number; many = many }) → is_settled (node op ts) ≡ true → ts ≡ no_more
  settled_bare op ts h calm =
      let parts = typed_parts registry schema op ts _ h in
      let known = known_typings registry schema ts parts.below (none op ts calm) parts.children_typed in
      elim (number_node registry schema number op ts many h) as (λ _. ts ≡ no_more) [
        | bare op_is no_children single literal ↦ no_children
        | under name tree op_is over typed ↦
            let below = ok_same (typing_all registry schema ts) parts.below _ parts.children_typed (ap (typing_all registry schema) over ∙ ap (λ r. typed_before r (Ok [])) typed) in
            let first = subst (AllByRecursion (λ (x : Typed). is_known x.type ≡ true)) below known in
            let differs : false ≡ true = first.0 in
            cc
      ]

  module _ (items items' : List AExpr) (at : ℕ) (rest stack : List ℕ) (before steps : ℕ) where
    placed_alone : (t : Expression) → typing registry schema t ≡ Ok (record { type = Untyped number; many = many }) → Denotes (HoldsExpression items) root t → at ≡ root → IsPlaced is_settled measure related turns registry schema items items' at → Alone is_settled related registry schema items' (root ∷ []) root t
    placed_alone t h d same p =
        let there = subst (λ k. Denotes (HoldsExpression items) k t) (sym same) d in
        let rep = p.answer t there in
        let own = number_alone registry schema number t many h in
        let like = rep.like _ h in
        let typed = like.same.typing ∙ (number_settled registry schema number own.0 own.1 t many h).typed in
        let now = subst (λ k. Denotes (HoldsExpression items') k rep.tree) same rep.denotes in
        let start : IsTypedRoot is_settled registry schema items' root = record { tree = rep.tree; denotes = now; typed = _; is = typed; known = λ all. rep.known _ typed } in
        goes_on items' rep.tree _ now like typed (rep.known _ typed) (pending_start is_settled measure related turns registry schema congruent transitive steady items' (root ∷ []) (start, tt))

    found_alone : (t : Expression) → typing registry schema t ≡ Ok (record { type = Untyped number; many = many }) → Denotes (HoldsExpression items) root t → at ≡ root → reverse rest ≡ [] → IsFound is_settled items items' at → ((op : Op) (inputs : List ℕ) → HoldsExpression items' at op inputs → stack ≡ rest ++ reverse inputs) → Alone is_settled related registry schema items' (reverse stack) root t
    found_alone (node op ts) h d same empty found pushed =
        let there = subst (λ k. Denotes (HoldsExpression items) k (node op ts)) (sym same) d in
        let calm = found.is (node op ts) there in
        let children = settled_bare op ts h calm in
        let now = kept (HoldsExpression items) (HoldsExpression items') (grown_held items items' (found_grows found)) at (node op ts) there in
        let inputs = no_inputs items' now.0 ts children now.2 in
        let over = ap reverse (pushed op now.0 now.1) ∙ inputs_first rest now.0 ∙ ap (λ l. l ++ reverse rest) inputs ∙ empty in
        is_found over (subst (λ k. Denotes (HoldsExpression items') k (node op ts)) same now) (subst (λ us. IsSettled is_settled (node op us)) (sym children) (subst (λ us. is_settled (node op us) ≡ true) children calm, tt))

    pub alone_turn : (t : Expression) → typing registry schema t ≡ Ok (record { type = Untyped number; many = many }) → IsTurn is_settled measure related turns registry schema items items' at rest stack before steps → Alone is_settled related registry schema items (reverse (rest ++ at ∷ [])) root t → Alone is_settled related registry schema items' (reverse stack) root t
    alone_turn t h turn alone = elim alone as (λ _. Alone is_settled related registry schema items' (reverse stack) root t) [
      | waits is d ↦
          let whole = sym (top_first rest at) ∙ is in
          let same = same_top at root (reverse rest) whole in
          elim turn as (λ _. Alone is_settled related registry schema items' (reverse stack) root t) [
            | places placed over counted ↦ subst (λ l. Alone is_settled related registry schema items' l root t) (sym (ap reverse over ∙ is)) (placed_alone t h d same placed)
            | finds found pushed counted ↦ found_alone t h d same (no_rest at root (reverse rest) whole) found pushed
          ]
      | goes_on mid v own d like is known pending ↦ goes_on mid v own d like is known (pending_turn is_settled measure related turns registry schema congruent transitive steady mid items items' at rest stack (root ∷ []) before steps turn pending)
      | is_found empty d calm ↦ absurd (no_top at (reverse rest) (sym (top_first rest at) ∙ empty))
    ]

  pub alone_end : (t : Expression) (items : List AExpr) → Alone is_settled related registry schema items [] root t → EndsTyped is_settled related registry schema items root t
  alone_end t items alone = elim alone as (λ _. EndsTyped is_settled related registry schema items root t) [
    | waits is d ↦ absurd (no_top root [] (sym is))
    | goes_on mid v own d like is known pending ↦
        let ended = (all_ended is_settled items (root ∷ []) pending.settled).0 in
        let now = pending.trees root v d in
        let one = denotes_one (shape_of (map expression_layer items)) (HoldsExpression items) (expression_laws items) root now.tree ended.tree now.denotes ended.denotes in
        let whole = like_then related registry schema congruent transitive (settled t) v now.tree like now.like in
        record {
          tree = ended.tree;
          denotes = ended.denotes;
          each = ended.each;
          like = inl (subst (IsLike related registry schema (settled t)) one whole);
        }
    | is_found empty d calm ↦ record { tree = t; denotes = d; each = calm; like = inr refl }
  ]
