-- Nodes that don't lead to a node that is changed, and numbers without a type.
use Rattle.std.proofs.Common.{◌≡◌, ◌≢◌, ℕ, ℤ, zero, suc, Bool, true, false, List, [], ◌∷◌, Ok, refl, sym, ap, ◌∙◌, subst, inl, inr, ⊎_elim}
use Rattle.plan_types.specs.Types.{Untyped, is_known}
use Rattle.plan_types.specs.Schemas.{Columns}
use Rattle.plan_dsl.specs.Registry.{Registry}
use Rattle.plan_dsl.specs.Trees.{Trees, node, no_more, more}
use Rattle.plan_dsl.specs.Ops.{Op, Expression}
use Rattle.plan_dsl.specs.Typing.{Typed, typing}
use Rattle.plan_dsl.proofs.LiteralLemmas.{bare, number_node, under}
use Rattle.plan_dsl.proofs.TypingLemmas.{ok_same}
use Rattle.plan_arena.specs.declared.aexpr.AExpr.{AExpr}
use Rattle.plan_arena.specs.Denotation.{Denotes, DenoteAll}
use Rattle.plan_arena.specs.Layers.{shape_of}
use Rattle.plan_arena.specs.Items.{HoldsExpression, expression_layer}
use Rattle.plan_arena.proofs.DenotationLemmas.{denotes_one, some_same}
use Rattle.plan_arena.proofs.ItemLemmas.{expression_laws, layer_inputs}
use Rattle.std.proofs.Common.{map}
use Rattle.plan_coerce.specs.Reaching.{Among, IsReached, ReachedBy}
use Rattle.plan_coerce.proofs.CountLemmas.{under as reached_under}
use Rattle.plan_coerce.proofs.TurnLemmas.{AllSettledBut, SettledBut}

-- what an input reaches, its node reaches
pub input_reaches : (items : List AExpr) (n m x : ℕ) (op : Op) (inputs : List ℕ) → HoldsExpression items n op inputs → Among inputs m → IsReached items (m ∷ []) x → IsReached items (n ∷ []) x
input_reaches items n m x op inputs held a r = record { steps = suc r.steps; path = reached_under items n m op inputs held a r.steps x r.path }

pub itself_reached : (items : List AExpr) (n m : ℕ) → n ≡ m → IsReached items (n ∷ []) m
itself_reached items n m e = record { steps = zero; path = inl (sym e) }

module _ (items items' : List AExpr) (at : ℕ) (keeps : (n : ℕ) (op : Op) (inputs : List ℕ) → n ≢ at → HoldsExpression items n op inputs → HoldsExpression items' n op inputs) where
  -- a tree whose node doesn't lead to the one that is changed stays
  mutual
    pub unreached : (n : ℕ) (t : Expression) → Denotes (HoldsExpression items) n t → (IsReached items (n ∷ []) at → ⊥) → Denotes (HoldsExpression items') n t
    unreached n (node op ts) d away =
        (d.0, keeps n op d.0 (λ e. away (itself_reached items n at e)) d.1, all_unreached d.0 ts d.2 (λ m a r. away (input_reaches items n m at op d.0 d.1 a r)))

    all_unreached : (ns : List ℕ) (ts : Trees Op) → DenoteAll (HoldsExpression items) ns ts → ((m : ℕ) → Among ns m → IsReached items (m ∷ []) at → ⊥) → DenoteAll (HoldsExpression items') ns ts
    all_unreached [] no_more d away = tt
    all_unreached (n ∷ ns) (more t ts) d away = (unreached n t d.0 (away n (inl refl)), all_unreached ns ts d.1 (λ m a. away m (inr a)))
    all_unreached [] (more t ts) d away = absurd d
    all_unreached (n ∷ ns) no_more d away = absurd d

  -- and stays settled but for what waits
  module _ (is_settled : Expression → Bool) (tops tops' : List ℕ) (waits : (n : ℕ) → n ≢ at → Among tops n → Among tops' n) where
    mutual
      pub settled_unreached : (n : ℕ) (t : Expression) → SettledBut is_settled items tops n t → (IsReached items (n ∷ []) at → ⊥) → SettledBut is_settled items' tops' n t
      settled_unreached n (node op ts) s away =
          let other : n ≢ at = λ e. away (itself_reached items n at e) in
          ⊎_elim
          (λ w. inl (waits n other w.0, unreached n (node op ts) w.1 away))
          (λ h. inr (h.0, keeps n op h.0 other h.1, h.2, all_settled_unreached h.0 ts h.3 (λ m a r. away (input_reaches items n m at op h.0 h.1 a r))))
          s

      all_settled_unreached : (ns : List ℕ) (ts : Trees Op) → AllSettledBut is_settled items tops ns ts → ((m : ℕ) → Among ns m → IsReached items (m ∷ []) at → ⊥) → AllSettledBut is_settled items' tops' ns ts
      all_settled_unreached [] no_more s away = tt
      all_settled_unreached (n ∷ ns) (more t ts) s away = (settled_unreached n t s.0 (away n (inl refl)), all_settled_unreached ns ts s.1 (λ m a. away m (inr a)))
      all_settled_unreached [] (more t ts) s away = absurd s
      all_settled_unreached (n ∷ ns) no_more s away = absurd s

-- what a number without a type leads to is one
module _ (registry : Registry) (schema : Columns) (items : List AExpr) (number : ℤ) (many : Bool) where
  abbrev pub NumberAt : ℕ → Type 0
  NumberAt n = (t : Expression) × Denotes (HoldsExpression items) n t × (typing registry schema t ≡ Ok (record { type = Untyped number; many = many }))

  number_below : (n : ℕ) (op : Op) (inputs : List ℕ) (m : ℕ) (t : Expression) → Denotes (HoldsExpression items) n t → typing registry schema t ≡ Ok (record { type = Untyped number; many = many }) → HoldsExpression items n op inputs → Among inputs m → NumberAt m
  number_below n op inputs m (node o ts) d h held a =
      let same = layer_inputs o op d.0 inputs (some_same _ _ _ d.1 held) in
      let below = subst (λ l. DenoteAll (HoldsExpression items) l ts) same d.2 in
      elim (number_node registry schema number o ts many h) as (λ _. NumberAt m) [
        | bare op_is none single literal ↦ absurd (childless inputs ts none below m a)
        | under name tree op_is over typed ↦ only_child inputs ts tree over below typed m a
      ] where
        childless : (ns : List ℕ) (us : Trees Op) → us ≡ no_more → DenoteAll (HoldsExpression items) ns us → (k : ℕ) → Among ns k → ⊥
        childless [] us e b k c = c
        childless (x ∷ xs) no_more e b k c = b
        childless (x ∷ xs) (more u us) e b k c = cc

        only_child : (ns : List ℕ) (us : Trees Op) (u : Expression) → us ≡ more u no_more → DenoteAll (HoldsExpression items) ns us → typing registry schema u ≡ Ok (record { type = Untyped number; many = many }) → (k : ℕ) → Among ns k → NumberAt k
        only_child ns us u e b is k c = one ns (subst (DenoteAll (HoldsExpression items) ns) e b) c where
          one : (xs : List ℕ) → DenoteAll (HoldsExpression items) xs (more u no_more) → Among xs k → NumberAt k
          one [] b c = absurd c
          one (x ∷ []) b c = ⊎_elim (λ e. (u, subst (λ j. Denotes (HoldsExpression items) j u) (sym e) b.0, is)) (λ n. absurd n) c
          one (x ∷ y ∷ ys) b c = absurd b.1

  pub chain : (m : ℕ) → NumberAt m → (steps x : ℕ) → ReachedBy items (m ∷ []) steps x → NumberAt x
  chain m is zero x path = ⊎_elim (λ e. subst NumberAt (sym e) is) (λ b. absurd b) path
  chain m is (suc steps) x path =
      let above = chain m is steps path.0 path.3 in
      number_below path.0 path.1 path.2 x above.0 above.1 above.2 path.4 path.5

  -- so it doesn't lead to what has a type of columns
  pub known_beside : (m : ℕ) (t : Expression) → Denotes (HoldsExpression items) m t → typing registry schema t ≡ Ok (record { type = Untyped number; many = many }) → (x : ℕ) (u : Expression) (own : Typed) → Denotes (HoldsExpression items) x u → typing registry schema u ≡ Ok own → is_known own.type ≡ true → IsReached items (m ∷ []) x → ⊥
  known_beside m t d h x u own e is known r =
      let there = chain m (t, d, h) r.steps x r.path in
      let one = denotes_one (shape_of (map expression_layer items)) (HoldsExpression items) (expression_laws items) x there.0 u there.1 e in
      let same = ok_same (typing registry schema u) own _ is (ap (typing registry schema) (sym one) ∙ there.2) in
      let untyped : true ≡ false = sym known ∙ ap (λ (x : Typed). is_known x.type) same in
      cc
