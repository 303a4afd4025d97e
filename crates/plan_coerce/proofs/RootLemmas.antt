-- Roots that the rule of coercion has gone over.
use Rattle.std.proofs.Common.{◌≡◌, ℕ, true, zero, suc, ◌≤◌, List, [], ◌∷◌, Ok, map, refl, sym, ap, ◌∙◌, subst}
use Rattle.std.specs.List.{AllByRecursion}
use Rattle.std.proofs.lemmas.Bool.{and_from, and_parts}
use Rattle.plan_types.specs.Schemas.{Columns}
use Rattle.plan_dsl.specs.Coercion.{coerced}
use Rattle.plan_dsl.specs.InlinedCasts.{inlined, stays, written_out}
use Rattle.plan_dsl.specs.Registry.{Registry}
use Rattle.plan_dsl.specs.Trees.{Trees, node, no_more, more}
use Rattle.plan_dsl.specs.Ops.{Op, Expression}
use Rattle.plan_dsl.specs.Strictness.{AllStrict, IsSame, IsStrict, are_strict, is_strict, is_strict_over}
use Rattle.plan_dsl.specs.Typing.{Typed, own_typed, then_typed, typing, typing_all, typing_rule}
use Rattle.plan_dsl.proofs.StrictLemmas.{strict_parts}
use Rattle.plan_arena.specs.declared.aexpr.AExpr.{AExpr}
use Rattle.plan_arena.specs.Denotation.{Denotes, DenotesTree}
use Rattle.plan_arena.specs.Layers.{shape_of}
use Rattle.plan_arena.specs.Items.{HoldsExpression, HoldsFrom, expression_layer}
use Rattle.plan_arena.proofs.DenotationLemmas.{denotes_one, inputs_denote}
use Rattle.plan_arena.proofs.ItemLemmas.{any_node, expression_laws, from_laws}
use Rattle.plan_arena.proofs.NumberLemmas.{all_weaker}
use Rattle.plan_infer.specs.Typed.{DenotesKnown}
use Rattle.plan_coerce.specs.Coercion.{KeepsBelow}
use Rattle.plan_coerce.specs.Optimizer.{AreSettled, AreTrees, AreTypedRoots, AreWrittenOut, DenotesSettled, IsSettled, IsTypedRoot, IsWrittenOut, StaysApart, StaysLike}
use Rattle.plan_coerce.specs.Reaching.{IsReached, ReachedBy}
use Rattle.plan_coerce.specs.CoercionRule.{IsCoercion}
use Rattle.plan_coerce.specs.Rules.{is_settled, is_strict_node, said}
use Rattle.plan_coerce.proofs.CoercedLemmas.{strict_coerced}
use Rattle.plan_coerce.proofs.NameLemmas.{written_same}
use Rattle.plan_coerce.proofs.ReachLemmas.{among_all}
use Rattle.plan_coerce.proofs.ToldLemmas.{stays_inlined}

module _ (registry : Registry) (schema : Columns) where
  -- what is settled by the rule is strict
  mutual
    settled_strict : (t : Expression) → IsSettled (is_settled registry schema) t → IsStrict registry schema t
    settled_strict (node op ts) s =
        and_from (is_strict_over registry schema op (typing_all registry schema ts)) (are_strict registry schema ts) (and_parts (said (is_strict_node registry schema) registry schema (node op ts)) (stays (coerced registry schema (node op ts))) s.0).0 (all_settled_strict ts s.1)

    all_settled_strict : (ts : Trees Op) → AreSettled (is_settled registry schema) ts → AllStrict registry schema ts
    all_settled_strict no_more s = refl
    all_settled_strict (more t ts) s = and_from (is_strict registry schema t) (are_strict registry schema ts) (settled_strict t s.0) (all_settled_strict ts s.1)

  -- and no cast in it goes
  mutual
    settled_stays : (t : Expression) → IsSettled (is_settled registry schema) t → IsSettled stays t
    settled_stays (node op ts) s =
        let here = (and_parts (said (is_strict_node registry schema) registry schema (node op ts)) (stays (coerced registry schema (node op ts))) s.0).1 in
        (subst (λ u. stays u ≡ true) (strict_coerced registry schema (node op ts) (settled_strict (node op ts) s)) here, all_settled_stays ts s.1)

    all_settled_stays : (ts : Trees Op) → AreSettled (is_settled registry schema) ts → AreSettled stays ts
    all_settled_stays no_more s = tt
    all_settled_stays (more t ts) s = (settled_stays t s.0, all_settled_stays ts s.1)

  -- so it is written out
  settled_written : (t : Expression) → IsSettled (is_settled registry schema) t → written_out registry schema t ≡ t
  settled_written t s = ap inlined (strict_coerced registry schema t (settled_strict t s)) ∙ stays_inlined t (settled_stays t s)

  -- what is strict is typed
  strict_typed : (tree : Expression) → IsStrict registry schema tree → (typed : Typed) × (typing registry schema tree ≡ Ok typed)
  strict_typed (node op ts) strict =
      let parts = and_parts (is_strict_over registry schema op (typing_all registry schema ts)) (are_strict registry schema ts) strict in
      let s = strict_parts registry schema op ts parts.0 in
      (s.ruling.own, ap (λ r. then_typed r (typing_rule registry schema op)) s.types ∙ ap own_typed s.rules)

  module _ (old new : List AExpr) where
    -- a root that ends settled denotes what it did, written out
    root_written : (n : ℕ) → StaysLike (IsCoercion registry schema) registry schema old new → DenotesSettled (is_settled registry schema) new n → (t : Expression) → Denotes (HoldsExpression old) n t → IsWrittenOut registry schema new n t
    root_written n like ended t d =
        let b = like n t d in
        let last = denotes_one (shape_of (map expression_layer new)) (HoldsExpression new) (expression_laws new) n ended.tree b.tree ended.denotes b.denotes in
        let each = subst (IsSettled (is_settled registry schema)) last ended.each in
        let strict = settled_strict b.tree each in
        let written : b.tree ≡ written_out registry schema t = sym (settled_written b.tree each) ∙ b.like.relates.same in
        let typed = strict_typed b.tree strict in
        record {
          tree = b.tree;
          denotes = b.denotes;
          same = subst (IsSame registry schema t) (sym written) (written_same registry schema t typed.0 (sym b.like.same.typing ∙ typed.1));
          strict = strict;
          is = written;
        }

    all_written : (roots : List ℕ) → StaysLike (IsCoercion registry schema) registry schema old new → AllByRecursion (DenotesSettled (is_settled registry schema) new) roots → AllByRecursion (λ n. (t : Expression) → Denotes (HoldsExpression old) n t → IsWrittenOut registry schema new n t) roots
    all_written [] like ended = tt
    all_written (n ∷ ns) like ended = (root_written n like ended.0, all_written ns like ended.1)

  module _ (first : ℕ) (old : List AExpr) where
    known_from : (n : ℕ) → DenotesKnown registry schema first old n → DenotesTree (HoldsFrom first old) n
    known_from n k = record { tree = k.tree; denotes = k.denotes }

    -- nodes from a number on reach such nodes
    from_first : (n : ℕ) → DenotesTree (HoldsFrom first old) n → first ≤ n
    from_first n t = of_tree t.tree t.denotes where
      of_tree : (tree : Expression) → Denotes (HoldsFrom first old) n tree → first ≤ n
      of_tree (node op ts) d = d.1.0

    path_from : (roots : List ℕ) → AllByRecursion (DenotesTree (HoldsFrom first old)) roots → (steps n : ℕ) → ReachedBy old roots steps n → DenotesTree (HoldsFrom first old) n
    path_from roots all zero n path = among_all (DenotesTree (HoldsFrom first old)) roots n all path
    path_from roots all (suc steps) n path =
        let above = path_from roots all steps path.0 path.3 in
        let below = inputs_denote (shape_of (map expression_layer old)) (HoldsFrom first old) (from_laws first old) path.0 path.1 path.2 (from_first path.0 above, path.4) above in
        (among_all (λ m. DenotesTree (HoldsFrom first old) m × _) path.2 n below path.5).0

    pub known_trees : (roots : List ℕ) → AllByRecursion (DenotesKnown registry schema first old) roots → AreTrees old roots
    known_trees roots known = all_weaker (DenotesKnown registry schema first old) (DenotesTree (HoldsExpression old)) (λ n k. record { tree = k.tree; denotes = any_node first old n k.tree k.denotes }) roots known

    pub known_roots : (roots : List ℕ) → AllByRecursion (DenotesKnown registry schema first old) roots → AreTypedRoots (is_settled registry schema) registry schema old roots
    known_roots roots known = all_weaker (DenotesKnown registry schema first old) (IsTypedRoot (is_settled registry schema) registry schema old) (λ n k. record { tree = k.tree; denotes = any_node first old n k.tree k.denotes; typed = k.has.typed; is = k.has.is; known = λ all. k.has.known }) roots known

    pub known_reach : (roots : List ℕ) → AllByRecursion (DenotesKnown registry schema first old) roots → (n : ℕ) → IsReached old roots n → first ≤ n
    known_reach roots known n r =
        let trees = all_weaker (DenotesKnown registry schema first old) (DenotesTree (HoldsFrom first old)) known_from roots known in
        from_first n (path_from roots trees r.steps n r.path)

    -- so items below the number stay
    pub known_below : (new : List AExpr) (roots : List ℕ) → AllByRecursion (DenotesKnown registry schema first old) roots → StaysApart old new roots → KeepsBelow first old new
    known_below new roots known apart n op inputs lower held =
        apart n op inputs (λ (r : IsReached old roots n). lower (known_reach roots known n r)) held

    -- and the roots are written out
    pub written_roots : (new : List AExpr) (roots : List ℕ) → AllByRecursion (DenotesKnown registry schema first old) roots → StaysLike (IsCoercion registry schema) registry schema old new → AllByRecursion (DenotesSettled (is_settled registry schema) new) roots → StaysApart old new roots → AreWrittenOut registry schema first old new roots
    written_roots new roots known like settled apart = record { below = known_below new roots known apart; each = all_written old new roots like settled }
