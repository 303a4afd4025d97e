-- Nodes that denote typed expressions, whatever else coercion goes over.
use Rattle.std.proofs.Common.{◌≡◌, ◌≢◌, ◌⊎◌, ℕ, ℤ, zero, suc, ◌≤◌, Bool, true, List, [], ◌∷◌, ◌++◌, length, map, reverse, Option, Some, Ok, Err, refl, sym, ap, ◌∙◌, subst, arith, inl, inr, ⊎_elim}
use Rattle.std.specs.List.{AllByRecursion}
use Rattle.std.proofs.lemmas.Bool.{false≢true}
use Rattle.plan_types.specs.Types.{Ty, Untyped, is_known}
use Rattle.plan_types.specs.Schemas.{Columns}
use Rattle.plan_types.specs.declared.error.ErrorKind.{ErrorKind}
use Rattle.plan_dsl.specs.Registry.{Registry}
use Rattle.plan_dsl.specs.Trees.{Trees, node, no_more, more}
use Rattle.plan_dsl.specs.Ops.{Op, Expression}
use Rattle.plan_dsl.specs.Typing.{Typed, typing, typing_all}
use Rattle.plan_dsl.proofs.LiteralLemmas.{typed_known}
use Rattle.plan_dsl.proofs.TypingLemmas.{by_children, typed_parts}
use Rattle.plan_arena.specs.declared.aexpr.AExpr.{AExpr}
use Rattle.plan_arena.specs.Denotation.{Denotes, DenoteAll, DenotesTree}
use Rattle.plan_arena.specs.Layers.{shape_of}
use Rattle.plan_arena.specs.Items.{HoldsExpression, expression_layer}
use Rattle.plan_arena.proofs.DenotationLemmas.{denotes_one, some_same}
use Rattle.plan_arena.proofs.ItemLemmas.{expression_laws, layer_inputs, tree_within}
use Rattle.plan_arena.proofs.NumberLemmas.{all_joined, all_reversed}
use Rattle.plan_coerce.specs.Optimizer.{AreTrees, DenotesLike, IsNumberRoot, IsTypedRoot, LeadsToNoNumber, StaysLikeTyped}
use Rattle.plan_coerce.specs.Reaching.{Among, IsReached, ReachedBy}
use Rattle.plan_coerce.specs.Rules.{AllKnown, IsCongruent, IsTransitive, SettlesNoNumber}
use Rattle.plan_coerce.specs.Turns.{IsFound, IsPlaced, IsStopped, IsTurn, finds, places}
use Rattle.plan_coerce.proofs.BesideLemmas.{chain, input_reaches, itself_reached, unreached}
use Rattle.plan_coerce.proofs.NearLemmas.{reach_kept}
use Rattle.plan_coerce.proofs.ReachLemmas.{all_among}
use Rattle.plan_coerce.proofs.TurnLemmas.{found_grows, inputs_first, like_grown, like_itself, like_then, placed_elsewhere, stopped_like, top_first}

-- the type of an expression is one of columns, or a number's own
known_or_number : (registry : Registry) (schema : Columns) (tree : Expression) (type : Ty) (many : Bool) → typing registry schema tree ≡ Ok (record { type = type; many = many }) → (is_known type ≡ true) ⊎ ((number : ℤ) × (type ≡ Untyped number))
known_or_number registry schema tree (Untyped number) many h = inr (number, refl)
known_or_number registry schema tree type many h = inl (typed_known registry schema tree type many h (λ number e. cc))

pub one_at : (items : List AExpr) (n : ℕ) (t u : Expression) → Denotes (HoldsExpression items) n t → Denotes (HoldsExpression items) n u → t ≡ u
one_at items = denotes_one (shape_of (map expression_layer items)) (HoldsExpression items) (expression_laws items)

-- ---- what a typed node leads to is typed

module _ (registry : Registry) (schema : Columns) (items : List AExpr) where
  abbrev TypedAt : ℕ → Type 0
  TypedAt n = (t : Expression) × (typed : Typed) × Denotes (HoldsExpression items) n t × (typing registry schema t ≡ Ok typed)

  typed_among : (ns : List ℕ) (ts : Trees Op) (typed : List Typed) → DenoteAll (HoldsExpression items) ns ts → typing_all registry schema ts ≡ Ok typed → (m : ℕ) → Among ns m → TypedAt m
  typed_among [] ts typed d h m a = absurd a
  typed_among (n ∷ ns) no_more typed d h m a = absurd d
  typed_among (n ∷ ns) (more t ts) typed d h m a =
      by_children (λ xs. TypedAt m) _ _ typed h (λ x xs first rest. ⊎_elim
      (λ e. (t, x, subst (λ k. Denotes (HoldsExpression items) k t) (sym e) d.0, first))
      (λ b. typed_among ns ts xs d.1 rest m b)
      a)

  typed_input : (n : ℕ) (op : Op) (inputs : List ℕ) (m : ℕ) (t : Expression) (typed : Typed) → Denotes (HoldsExpression items) n t → typing registry schema t ≡ Ok typed → HoldsExpression items n op inputs → Among inputs m → TypedAt m
  typed_input n op inputs m (node o ts) typed d h held a =
      let same = layer_inputs o op d.0 inputs (some_same _ _ _ d.1 held) in
      let parts = typed_parts registry schema o ts typed h in
      typed_among inputs ts parts.below (subst (λ l. DenoteAll (HoldsExpression items) l ts) same d.2) parts.children_typed m a

  typed_path : (n : ℕ) → TypedAt n → (steps x : ℕ) → ReachedBy items (n ∷ []) steps x → TypedAt x
  typed_path n is zero x path = ⊎_elim (λ e. subst TypedAt (sym e) is) (λ b. absurd b) path
  typed_path n is (suc steps) x path =
      let above = typed_path n is steps path.0 path.3 in
      typed_input path.0 path.1 path.2 x above.0 above.1 above.2 above.3 path.4 path.5

  -- so it doesn't lead to what has no typing
  typed_apart : (n : ℕ) (t : Expression) (typed : Typed) → Denotes (HoldsExpression items) n t → typing registry schema t ≡ Ok typed → (at : ℕ) (u : Expression) (kind : ErrorKind) → Denotes (HoldsExpression items) at u → typing registry schema u ≡ Err kind → IsReached items (n ∷ []) at → ⊥
  typed_apart n t typed d h at u kind e refused r =
      let there = typed_path n (t, typed, d, h) r.steps at r.path in
      let one = one_at items at there.0 u there.2 e in
      let differs : Ok there.1 ≡ Err kind = sym there.3 ∙ ap (typing registry schema) one ∙ refused in
      cc

-- ---- numbers without a type that are there were there

-- no number without a type is denoted, but by a root that did so at first
abbrev pub IsWaiting : Registry → Columns → List AExpr → List AExpr → List ℕ → ℕ → Type 0
IsWaiting registry schema start items roots n =
    (number : ℤ) (many : Bool) (t : Expression) → Denotes (HoldsExpression items) n t → typing registry schema t ≡ Ok (record { type = Untyped number; many = many }) → Among roots n × IsNumberRoot registry schema start n

module _ (items items' : List AExpr) (at : ℕ) (keeps : (n : ℕ) (op : Op) (inputs : List ℕ) → n ≢ at → HoldsExpression items n op inputs → HoldsExpression items' n op inputs) where
  -- a tree stays whose node doesn't lead to what is changed afterwards
  mutual
    unreached_after : (n : ℕ) (t : Expression) → Denotes (HoldsExpression items) n t → (IsReached items' (n ∷ []) at → ⊥) → Denotes (HoldsExpression items') n t
    unreached_after n (node op ts) d away =
        let held = keeps n op d.0 (λ e. away (itself_reached items' n at e)) d.1 in
        (d.0, held, all_unreached_after d.0 ts d.2 (λ m a r. away (input_reaches items' n m at op d.0 held a r)))

    all_unreached_after : (ns : List ℕ) (ts : Trees Op) → DenoteAll (HoldsExpression items) ns ts → ((m : ℕ) → Among ns m → IsReached items' (m ∷ []) at → ⊥) → DenoteAll (HoldsExpression items') ns ts
    all_unreached_after [] no_more d away = tt
    all_unreached_after (n ∷ ns) (more t ts) d away = (unreached_after n t d.0 (away n (inl refl)), all_unreached_after ns ts d.1 (λ m a. away m (inr a)))
    all_unreached_after [] (more t ts) d away = absurd d
    all_unreached_after (n ∷ ns) no_more d away = absurd d

  module _ (registry : Registry) (schema : Columns) (here : (number : ℤ) (many : Bool) (t : Expression) → Denotes (HoldsExpression items') at t → typing registry schema t ≡ Ok (record { type = Untyped number; many = many }) → ⊥) where
    number_was : (n : ℕ) → DenotesTree (HoldsExpression items) n → (number : ℤ) (many : Bool) (t : Expression) → Denotes (HoldsExpression items') n t → typing registry schema t ≡ Ok (record { type = Untyped number; many = many }) → Denotes (HoldsExpression items) n t
    number_was n tree number many t d h =
        let away : IsReached items' (n ∷ []) at → ⊥ = λ r.
        let there = chain registry schema items' number many n (t, d, h) r.steps at r.path in
        here number many there.0 there.1 there.2 in
        subst (Denotes (HoldsExpression items) n) (one_at items' n tree.tree t (unreached_after n tree.tree tree.denotes away) d) tree.denotes

    still_waits : (start : List AExpr) (roots ns : List ℕ) → AreTrees items ns → AllByRecursion (IsWaiting registry schema start items roots) ns → AllByRecursion (IsWaiting registry schema start items' roots) ns
    still_waits start roots [] trees all = tt
    still_waits start roots (n ∷ ns) trees all =
        (λ number many t d h. all.0 number many t (number_was n trees.0 number many t d h) h, still_waits start roots ns trees.1 all.1)

-- inputs of a node that is settled are no such numbers
inputs_wait : (registry : Registry) (schema : Columns) (start items : List AExpr) (roots ns : List ℕ) (ts : Trees Op) → DenoteAll (HoldsExpression items) ns ts → AllKnown registry schema ts → AllByRecursion (IsWaiting registry schema start items roots) ns
inputs_wait registry schema start items roots [] no_more d known = tt
inputs_wait registry schema start items roots (n ∷ ns) (more t ts) d known = (
  λ number many u e h. absurd (false≢true (known.0 _ (ap (typing registry schema) (one_at items n t u d.0 e) ∙ h))),
  inputs_wait registry schema start items roots ns ts d.1 known.1,
)
inputs_wait registry schema start items roots [] (more t ts) d known = absurd d
inputs_wait registry schema start items roots (n ∷ ns) no_more d known = absurd d

-- ---- the work so far

-- typed expressions are like what they were, and what waits is no number without a type, but for roots
pub record Standing (is_settled : Expression → Bool) (related : Expression → Expression → Type 0) (turns : Option ℕ) (registry : Registry) (schema : Columns) (start items : List AExpr) (tops roots : List ℕ) : Type 0 where
  pub trees : StaysLikeTyped is_settled related turns registry schema start items roots
  pub waiting : SettlesNoNumber is_settled registry schema → AllByRecursion (IsWaiting registry schema start items roots) tops
  pub reach : (limit : ℕ) → turns ≡ Some limit → (n x : ℕ) → DenotesTree (HoldsExpression start) n → IsReached items (n ∷ []) x → (length start ≤ x) ⊎ IsReached start (n ∷ []) x

module _ (is_settled : Expression → Bool) (measure : Expression → ℕ) (related : Expression → Expression → Type 0) (turns : Option ℕ) (registry : Registry) (schema : Columns) (congruent : IsCongruent related registry schema) (transitive : IsTransitive related) (start : List AExpr) (roots : List ℕ) where
  pub stays_typed : StaysLikeTyped is_settled related turns registry schema start start roots
  stays_typed n t typed d h apart = record { tree = t; denotes = d; like = like_itself related registry schema congruent t }

  pub standing_start : Standing is_settled related turns registry schema start start (reverse roots) roots
  standing_start = record {
    trees = stays_typed;
    waiting = λ none. all_reversed (IsWaiting registry schema start start roots) roots (all_among (IsWaiting registry schema start start roots) roots (λ n a number many t d h. (a, record { tree = t; denotes = d; number = number; many = many; is = h })));
    reach = λ limit is n x tree r. inr r;
  }

  module _ (items items' : List AExpr) (at : ℕ) (behind : List ℕ) (finite : (n : ℕ) → DenotesTree (HoldsExpression start) n → DenotesTree (HoldsExpression items) n) (longer : length start ≤ length items) (trees : AreTrees items (at ∷ behind)) (w : Standing is_settled related turns registry schema start items (at ∷ behind) roots) where
    here : DenotesTree (HoldsExpression items) at
    here = trees.0

    -- a node that doesn't lead to the one that is changed
    module _ (p : IsPlaced is_settled measure related turns registry schema items items' at) where
      keeps : (n : ℕ) (op : Op) (inputs : List ℕ) → n ≢ at → HoldsExpression items n op inputs → HoldsExpression items' n op inputs
      keeps = placed_elsewhere is_settled measure related turns registry schema items items' at p

      beside : (n : ℕ) (t : Expression) (one : DenotesLike related registry schema items n t) → (IsReached items (n ∷ []) at → ⊥) → DenotesLike related registry schema items' n t
      beside n t one away = record { tree = one.tree; denotes = unreached items items' at keeps n one.tree one.denotes away; like = one.like }

      -- over a typed one
      over_known : (own : Typed) → typing registry schema here.tree ≡ Ok own → is_known own.type ≡ true → (n : ℕ) (t : Expression) (one : DenotesLike related registry schema items n t) → DenotesLike related registry schema items' n t
      over_known own is known n t one =
          let root : IsTypedRoot is_settled registry schema items at = record { tree = here.tree; denotes = here.denotes; typed = own; is = is; known = λ none. known } in
          let two = stopped_like is_settled measure related turns registry schema congruent items items' at root (inr p) n one.tree one.denotes in
          record { tree = two.tree; denotes = two.denotes; like = like_then related registry schema congruent transitive t one.tree two.tree one.like two.like }

      -- beside a number without a type, which is a root
      over_number : (number : ℤ) (many : Bool) → typing registry schema here.tree ≡ Ok (record { type = Untyped number; many = many }) → (n : ℕ) (t : Expression) → Denotes (HoldsExpression start) n t → LeadsToNoNumber is_settled turns registry schema start roots n → (one : DenotesLike related registry schema items n t) → DenotesLike related registry schema items' n t
      over_number number many is n t d apart one =
          let none = p.numbers here.tree _ here.denotes is refl in
          let root = (w.waiting none).0 number many here.tree here.denotes is in
          let away = apart none at root.0 root.1 in
          let within = tree_within start at (record { tree = root.1.tree; denotes = root.1.denotes }) in
          beside n t one (λ r. ⊎_elim (λ le. omega (arith, le, within)) away.2 (w.reach away.0 away.1 n at (record { tree = t; denotes = d }) r))

      placed_typed : StaysLikeTyped is_settled related turns registry schema start items' roots
      placed_typed n t typed d h apart =
          let one = w.trees n t typed d h apart in
          elim (typing registry schema here.tree) as (λ r. typing registry schema here.tree ≡ r → DenotesLike related registry schema items' n t) [
            | Err kind ↦ λ e. beside n t one (typed_apart registry schema items n one.tree typed one.denotes (one.like.same.typing ∙ h) at here.tree kind here.denotes e)
            | Ok own ↦ λ e. ⊎_elim
                (λ known. over_known own e known n t one)
                (λ number. over_number number.0 own.many (e ∙ ap (λ x. Ok (record { type = x; many = own.many })) number.1) n t d apart one)
                (known_or_number registry schema here.tree own.type own.many e)
          ] refl

      -- what is put in place is no such number
      none_placed : (number : ℤ) (many : Bool) (t : Expression) → Denotes (HoldsExpression items') at t → typing registry schema t ≡ Ok (record { type = Untyped number; many = many }) → ⊥
      none_placed number many t d h =
          let rep = p.answer here.tree here.denotes in
          false≢true (rep.known _ (ap (typing registry schema) (one_at items' at rep.tree t rep.denotes d) ∙ h))

    pub stops_typed : IsStopped is_settled measure related turns registry schema items items' at → StaysLikeTyped is_settled related turns registry schema start items' roots
    stops_typed s n t typed d h apart = ⊎_elim
        (λ g.
        let one = w.trees n t typed d h apart in
        let two = like_grown related registry schema congruent items items' g n one.tree one.denotes in
        record { tree = two.tree; denotes = two.denotes; like = like_then related registry schema congruent transitive t one.tree two.tree one.like two.like })
        (λ p. placed_typed p n t typed d h apart)
        s

    reach_on : IsStopped is_settled measure related turns registry schema items items' at → (limit : ℕ) → turns ≡ Some limit → (n x : ℕ) → DenotesTree (HoldsExpression start) n → IsReached items' (n ∷ []) x → (length start ≤ x) ⊎ IsReached start (n ∷ []) x
    reach_on s limit is n x tree r =
        ⊎_elim (λ le. inl (omega (arith, le, longer))) (λ old. w.reach limit is n x tree old) (reach_kept is_settled measure related turns limit is registry schema items items' at s n x (finite n tree) r)

    standing_places : IsPlaced is_settled measure related turns registry schema items items' at → Standing is_settled related turns registry schema start items' (at ∷ behind) roots
    standing_places p = record {
      trees = stops_typed (inr p);
      waiting = λ none. (λ number many t d h. absurd (none_placed p number many t d h), still_waits items items' at (keeps p) registry schema (none_placed p) start roots behind trees.1 (w.waiting none).1);
      reach = reach_on (inr p);
    }

    standing_finds : (tree : Expression) → Denotes (HoldsExpression items) at tree → (tops : List ℕ) → IsFound is_settled items items' at → ((op : Op) (inputs : List ℕ) → HoldsExpression items' at op inputs → tops ≡ inputs ++ behind) → Standing is_settled related turns registry schema start items' tops roots
    standing_finds (node op ts) d tops found pushed =
        let held = subst (λ l. HoldsExpression l at op d.0) (sym found.same) d.1 in
        record {
          trees = stops_typed (inl (found_grows found));
          waiting = λ none.
              let inputs = inputs_wait registry schema start items roots d.0 ts d.2 (none op ts (found.is (node op ts) d)) in
              let all = all_joined (IsWaiting registry schema start items roots) d.0 behind inputs (w.waiting none).1 in
              subst (AllByRecursion (IsWaiting registry schema start items' roots)) (sym (pushed op d.0 held)) (subst (λ l. AllByRecursion (IsWaiting registry schema start l roots) (d.0 ++ behind)) (sym found.same) all);
          reach = reach_on (inl (found_grows found));
        }

  module _ (items items' : List AExpr) (at : ℕ) (rest stack : List ℕ) (before steps : ℕ) (finite : (n : ℕ) → DenotesTree (HoldsExpression start) n → DenotesTree (HoldsExpression items) n) (longer : length start ≤ length items) where
    pub standing_turn : IsTurn is_settled measure related turns registry schema items items' at rest stack before steps → AreTrees items (reverse (rest ++ at ∷ [])) → Standing is_settled related turns registry schema start items (reverse (rest ++ at ∷ [])) roots → Standing is_settled related turns registry schema start items' (reverse stack) roots
    standing_turn turn all given =
        let trees = subst (AreTrees items) (top_first rest at) all in
        let w = subst (λ l. Standing is_settled related turns registry schema start items l roots) (top_first rest at) given in
        elim turn as (λ _. Standing is_settled related turns registry schema start items' (reverse stack) roots) [
          | places placed over counted ↦ subst (λ l. Standing is_settled related turns registry schema start items' l roots) (sym (ap reverse over ∙ top_first rest at)) (standing_places items items' at (reverse rest) finite longer trees w placed)
          | finds found pushed counted ↦ standing_finds items items' at (reverse rest) finite longer trees w trees.0.tree trees.0.denotes (reverse stack) found (λ op inputs held. ap reverse (pushed op inputs held) ∙ inputs_first rest inputs)
        ]
