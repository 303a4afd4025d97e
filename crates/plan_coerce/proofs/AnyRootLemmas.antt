-- Roots of any kind: each that was begun is settled but for what is worked on, above the roots that rest.
use Rattle.std.proofs.Common.{◌≡◌, ◌≢◌, ℕ, Bool, true, false, List, [], ◌∷◌, ◌++◌, reverse, Option, Ok, Err, refl, sym, ap, ◌∙◌, subst, inl, inr, ⊎_elim}
use Rattle.std.specs.List.{AllByRecursion}
use Rattle.std.proofs.lemmas.Bool.{false≢true}
use Rattle.std.proofs.lemmas.List.{append-nil, append_assoc, reverse-reverse}
use Rattle.plan_types.specs.Types.{is_known}
use Rattle.plan_types.specs.Schemas.{Columns}
use Rattle.plan_dsl.specs.Registry.{Registry}
use Rattle.plan_dsl.specs.Trees.{Trees, node, no_more, more}
use Rattle.plan_dsl.specs.Ops.{Op, Expression}
use Rattle.plan_dsl.specs.Typing.{Typed, typing}
use Rattle.plan_arena.specs.declared.aexpr.AExpr.{AExpr}
use Rattle.plan_arena.specs.Denotation.{Denotes, DenoteAll, DenotesTree}
use Rattle.plan_arena.specs.Items.{HoldsExpression}
use Rattle.plan_arena.proofs.DenotationLemmas.{same_or_other}
use Rattle.plan_arena.proofs.NumberLemmas.{all_front, all_joined, all_reversed, all_weaker}
use Rattle.plan_coerce.specs.Optimizer.{AreTrees, DenotesLike, DenotesSettled, StaysLike}
use Rattle.plan_coerce.specs.Reaching.{Among}
use Rattle.plan_coerce.specs.Rules.{AllKnown, IsCongruent, IsLike, IsSteady, SettlesNoNumber}
use Rattle.plan_coerce.specs.Turns.{IsFound, IsPlaced, IsTurn, finds, places}
use Rattle.plan_coerce.proofs.OnceLemmas.{among_back, among_front}
use Rattle.plan_coerce.proofs.SettledLemmas.{known_settled}
use Rattle.plan_coerce.proofs.TurnLemmas.{AllSettledBut, SettledBut, all_ended, all_waiting, become, inputs_first, like_itself, placed_elsewhere, settled_denotes, step, top_first, waiting_settled}
use Rattle.plan_coerce.proofs.TypedNodeLemmas.{one_at}

-- the node denotes no number without a type
abbrev pub IsKnownAt : Registry → Columns → List AExpr → ℕ → Type 0
IsKnownAt registry schema items n = (t : Expression) (typed : Typed) → Denotes (HoldsExpression items) n t → typing registry schema t ≡ Ok typed → is_known typed.type ≡ true

-- the node denotes a tree that is settled but for what is above
abbrev pub IsBegun : (Expression → Bool) → List AExpr → List ℕ → ℕ → Type 0
IsBegun is_settled items tops n = (t : Expression) × SettledBut is_settled items tops n t

-- The work so far: what is worked on waits above the roots that rest. It is no number without a type, where no node over such
-- a number is settled.
pub record Settling (is_settled : Expression → Bool) (registry : Registry) (schema : Columns) (items : List AExpr) (tops roots : List ℕ) : Type 0 where
  pub work : List ℕ
  pub rest : List ℕ
  pub done : List ℕ
  pub order : reverse roots ≡ done ++ rest
  pub tops_are : tops ≡ work ++ rest
  pub working : SettlesNoNumber is_settled registry schema → AllByRecursion (IsKnownAt registry schema items) work
  pub begun : AllByRecursion (IsBegun is_settled items work) done

-- inputs of a node that is settled are no such numbers
known_inputs : (registry : Registry) (schema : Columns) (items : List AExpr) (ns : List ℕ) (ts : Trees Op) → DenoteAll (HoldsExpression items) ns ts → AllKnown registry schema ts → AllByRecursion (IsKnownAt registry schema items) ns
known_inputs registry schema items [] no_more d known = tt
known_inputs registry schema items (n ∷ ns) (more t ts) d known =
    (λ u typed e h. known.0 typed (ap (typing registry schema) (one_at items n t u d.0 e) ∙ h), known_inputs registry schema items ns ts d.1 known.1)
known_inputs registry schema items [] (more t ts) d known = absurd d
known_inputs registry schema items (n ∷ ns) no_more d known = absurd d

-- what is no such number stays none
known_become : (related : Expression → Expression → Type 0) (registry : Registry) (schema : Columns) (items items' : List AExpr) → StaysLike related registry schema items items' → (ns : List ℕ) → AreTrees items ns → AllByRecursion (IsKnownAt registry schema items) ns → AllByRecursion (IsKnownAt registry schema items') ns
known_become related registry schema items items' becomes [] trees all = tt
known_become related registry schema items items' becomes (n ∷ ns) trees all = (
  λ u typed d h.
      let now = becomes n trees.0.tree trees.0.denotes in
      all.0 trees.0.tree typed trees.0.denotes (sym now.like.same.typing ∙ ap (typing registry schema) (one_at items' n now.tree u now.denotes d) ∙ h),
  known_become related registry schema items items' becomes ns trees.1 all.1,
)

-- the list that is worked on, from its top
module _ (at x : ℕ) (behind xs rest : List ℕ) (is : at ∷ behind ≡ x ∷ (xs ++ rest)) where
  head_same : x ≡ at
  head_same = cc

  tail_same : behind ≡ xs ++ rest
  tail_same = cc

no_top : (xs ys : List ℕ) → [] ≡ xs ++ ys → (xs ≡ []) × (ys ≡ [])
no_top [] ys e = (refl, sym e)
no_top (x ∷ xs) ys e = cc

-- one root more is begun
module _ (roots done rest behind : List ℕ) (at : ℕ) (order : reverse roots ≡ done ++ rest) (is : at ∷ behind ≡ rest) where
  one_more : reverse roots ≡ (done ++ at ∷ []) ++ behind
  one_more = order ∙ ap (λ l. done ++ l) (sym is) ∙ sym (append_assoc done (at ∷ []) behind)

module _ (is_settled : Expression → Bool) (measure : Expression → ℕ) (related : Expression → Expression → Type 0) (turns : Option ℕ) (registry : Registry) (schema : Columns) (congruent : IsCongruent related registry schema) (steady : IsSteady is_settled related registry schema) where
  pub settling_start : (items : List AExpr) (roots : List ℕ) → Settling is_settled registry schema items (reverse roots) roots
  settling_start items roots = record { work = []; rest = reverse roots; done = []; order = refl; tops_are = refl; working = λ none. tt; begun = tt }

  -- ---- a node that was found settled

  module _ (items : List AExpr) (at : ℕ) (op : Op) (ts : Trees Op) (inputs : List ℕ) (held : HoldsExpression items at op inputs) (below : DenoteAll (HoldsExpression items) inputs ts) (calm : is_settled (node op ts) ≡ true) where
    found_here : (tops : List ℕ) → ((n : ℕ) → Among inputs n → Among tops n) → SettledBut is_settled items tops at (node op ts)
    found_here tops waits = inr (inputs, held, calm, all_waiting is_settled items tops inputs ts waits below)

    -- what was begun stays so
    found_begun : (tops tops' : List ℕ) → ((n : ℕ) → Among inputs n → Among tops' n) → ((n : ℕ) → n ≢ at → Among tops n → Among tops' n) → (n : ℕ) → IsBegun is_settled items tops n → IsBegun is_settled items tops' n
    found_begun tops tops' inner waits n s =
        let here : (u : Expression) → Denotes (HoldsExpression items) at u → (w : Expression) × SettledBut is_settled items tops' at w × IsLike related registry schema u w = λ u d.
        (node op ts, found_here tops' inner, subst (λ t. IsLike related registry schema t (node op ts)) (one_at items at (node op ts) u (inputs, held, below) d) (like_itself related registry schema congruent (node op ts))) in
        let now = step is_settled related registry schema congruent steady items items at tops tops' (λ m o ns other h. h) (λ m t d. record { tree = t; denotes = d; like = like_itself related registry schema congruent t }) waits here n s.0 s.1 in
        (now.0, now.1)

    found_turn : (tops behind roots work rest done : List ℕ) → tops ≡ inputs ++ behind → reverse roots ≡ done ++ rest → at ∷ behind ≡ work ++ rest → (SettlesNoNumber is_settled registry schema → AllByRecursion (IsKnownAt registry schema items) work) → AllByRecursion (IsBegun is_settled items work) done → Settling is_settled registry schema items tops roots
    found_turn tops behind roots [] rest done pushed order is working begun = record {
      work = inputs;
      rest = behind;
      done = done ++ at ∷ [];
      order = one_more roots done rest behind at order is;
      tops_are = pushed;
      working = λ none. known_inputs registry schema items inputs ts below (none op ts calm);
      begun = all_joined (IsBegun is_settled items inputs) done (at ∷ [])
          (all_weaker (IsBegun is_settled items []) (IsBegun is_settled items inputs) (found_begun [] inputs (λ n a. a) (λ n other a. absurd a)) done begun)
          ((node op ts, found_here inputs (λ n a. a)), tt);
    }
    found_turn tops behind roots (x ∷ xs) rest done pushed order is working begun =
        let same = head_same at x behind xs rest is in
        let inner = among_front inputs xs in
        let waits : (n : ℕ) → n ≢ at → Among (at ∷ xs) n → Among (inputs ++ xs) n = λ n other a. ⊎_elim (λ e. absurd (other e)) (λ b. among_back inputs xs n b) a in
        record {
          work = inputs ++ xs;
          rest = rest;
          done = done;
          order = order;
          tops_are = pushed ∙ ap (λ l. inputs ++ l) (tail_same at x behind xs rest is) ∙ sym (append_assoc inputs xs rest);
          working = λ none. all_joined (IsKnownAt registry schema items) inputs xs (known_inputs registry schema items inputs ts below (none op ts calm)) (working none).1;
          begun = all_weaker (IsBegun is_settled items (at ∷ xs)) (IsBegun is_settled items (inputs ++ xs)) (found_begun (at ∷ xs) (inputs ++ xs) inner waits) done (subst (λ k. AllByRecursion (IsBegun is_settled items (k ∷ xs)) done) same begun);
        }

  -- ---- a node that is replaced

  module _ (items items' : List AExpr) (at : ℕ) (u : Expression) (d : Denotes (HoldsExpression items) at u) (p : IsPlaced is_settled measure related turns registry schema items items' at) where
    keeps : (n : ℕ) (op : Op) (inputs : List ℕ) → n ≢ at → HoldsExpression items n op inputs → HoldsExpression items' n op inputs
    keeps = placed_elsewhere is_settled measure related turns registry schema items items' at p

    -- what is put in place is no such number, and waits
    placed_known : IsKnownAt registry schema items' at
    placed_known t typed e h = let rep = p.answer u d in rep.known typed (ap (typing registry schema) (one_at items' at rep.tree t rep.denotes e) ∙ h)

    placed_waits : (tops : List ℕ) → IsBegun is_settled items' (at ∷ tops) at
    placed_waits tops = let rep = p.answer u d in (rep.tree, waiting_settled is_settled items' (at ∷ tops) at rep.tree (inl refl) rep.denotes)

    -- over what is no such number
    module _ (known : (typed : Typed) → typing registry schema u ≡ Ok typed → is_known typed.type ≡ true) where
      placed_alike : DenotesLike related registry schema items' at u
      placed_alike =
          let rep = p.answer u d in
          elim (typing registry schema u) as (λ r. typing registry schema u ≡ r → DenotesLike related registry schema items' at u) [
            | Err kind ↦ λ h. record { tree = rep.tree; denotes = rep.denotes; like = rep.ill_typed kind h }
            | Ok typed ↦ λ h. record { tree = rep.tree; denotes = rep.denotes; like = subst (λ t. IsLike related registry schema t rep.tree) (known_settled registry schema u typed h (known typed h)) (rep.like typed h) }
          ] refl

      becomes : StaysLike related registry schema items items'
      becomes = become related registry schema congruent items items' at u d placed_alike keeps

      placed_begun : (tops tops' : List ℕ) → ((n : ℕ) → n ≢ at → Among tops n → Among (at ∷ tops') n) → (n : ℕ) → IsBegun is_settled items tops n → IsBegun is_settled items' (at ∷ tops') n
      placed_begun tops tops' waits n s =
          let here : (v : Expression) → Denotes (HoldsExpression items) at v → (w : Expression) × SettledBut is_settled items' (at ∷ tops') at w × IsLike related registry schema v w = λ v e.
          let now = becomes at v e in
          (now.tree, waiting_settled is_settled items' (at ∷ tops') at now.tree (inl refl) now.denotes, now.like) in
          let now = step is_settled related registry schema congruent steady items items' at tops (at ∷ tops') keeps becomes waits here n s.0 s.1 in
          (now.0, now.1)

    -- beside such a number, which no settled node has as an input
    module _ (none : SettlesNoNumber is_settled registry schema) (own : Typed) (is : typing registry schema u ≡ Ok own) (number : is_known own.type ≡ false) where
      not_here : (n : ℕ) (t : Expression) → SettledBut is_settled items [] n t → ((typed : Typed) → typing registry schema t ≡ Ok typed → is_known typed.type ≡ true) → n ≢ at
      not_here n t s known e =
          let one = one_at items at t u (subst (λ k. Denotes (HoldsExpression items) k t) e (settled_denotes is_settled items [] n t s)) d in
          false≢true (sym number ∙ known own (ap (typing registry schema) one ∙ is))

      mutual
        apart : (tops : List ℕ) (n : ℕ) (t : Expression) → SettledBut is_settled items [] n t → n ≢ at → SettledBut is_settled items' tops n t
        apart tops n (node op ts) s other = ⊎_elim
            (λ w. absurd w.0)
            (λ h. inr (h.0, keeps n op h.0 other h.1, h.2, all_apart tops h.0 ts h.3 (none op ts h.2)))
            s

        all_apart : (tops ns : List ℕ) (ts : Trees Op) → AllSettledBut is_settled items [] ns ts → AllKnown registry schema ts → AllSettledBut is_settled items' tops ns ts
        all_apart tops [] no_more s known = tt
        all_apart tops (n ∷ ns) (more t ts) s known = (apart tops n t s.0 (not_here n t s.0 known.0), all_apart tops ns ts s.1 known.1)
        all_apart tops [] (more t ts) s known = absurd s
        all_apart tops (n ∷ ns) no_more s known = absurd s

      beside_begun : (n : ℕ) → IsBegun is_settled items [] n → IsBegun is_settled items' (at ∷ []) n
      beside_begun n s = ⊎_elim
          (λ e. subst (IsBegun is_settled items' (at ∷ [])) (sym e) (placed_waits []))
          (λ other. (s.0, apart (at ∷ []) n s.0 s.1 other))
          (same_or_other n at)

    -- where nothing was worked on
    root_begun : (n : ℕ) → IsBegun is_settled items [] n → IsBegun is_settled items' (at ∷ []) n
    root_begun n s = elim (typing registry schema u) as (λ r. typing registry schema u ≡ r → IsBegun is_settled items' (at ∷ []) n) [
      | Err kind ↦ λ h. placed_begun (λ typed e. let differs : Err kind ≡ Ok typed = sym h ∙ e in cc) [] [] (λ m other a. absurd a) n s
      | Ok own ↦ λ h. elim (is_known own.type) as (λ b. is_known own.type ≡ b → IsBegun is_settled items' (at ∷ []) n) [
        | true ↦ λ k. placed_begun (λ typed e. let same : own ≡ typed = let both : Ok own ≡ Ok typed = sym h ∙ e in cc in ap (λ (x : Typed). is_known x.type) (sym same) ∙ k) [] [] (λ m other a. absurd a) n s
        | false ↦ λ k. beside_begun (p.numbers u own d h k) own h k n s
      ] refl
    ] refl

    placed_turn : (behind roots work rest done : List ℕ) → AreTrees items (at ∷ behind) → reverse roots ≡ done ++ rest → at ∷ behind ≡ work ++ rest → (SettlesNoNumber is_settled registry schema → AllByRecursion (IsKnownAt registry schema items) work) → AllByRecursion (IsBegun is_settled items work) done → Settling is_settled registry schema items' (at ∷ behind) roots
    placed_turn behind roots [] rest done trees order is working begun = record {
      work = at ∷ [];
      rest = behind;
      done = done ++ at ∷ [];
      order = one_more roots done rest behind at order is;
      tops_are = refl;
      working = λ none. (placed_known, tt);
      begun = all_joined (IsBegun is_settled items' (at ∷ [])) done (at ∷ []) (all_weaker (IsBegun is_settled items []) (IsBegun is_settled items' (at ∷ [])) root_begun done begun) (placed_waits [], tt);
    }
    placed_turn behind roots (x ∷ xs) rest done trees order is working begun =
        let same = head_same at x behind xs rest is in
        let over = tail_same at x behind xs rest is in
        let working' = subst (λ k. SettlesNoNumber is_settled registry schema → AllByRecursion (IsKnownAt registry schema items) (k ∷ xs)) same working in
        let known : (typed : Typed) → typing registry schema u ≡ Ok typed → is_known typed.type ≡ true = λ typed h.
        elim (is_known typed.type) as (λ b. is_known typed.type ≡ b → is_known typed.type ≡ true) [ true ↦ λ k. k | false ↦ λ k. (working' (p.numbers u typed d h k)).0 u typed d h ] refl in
        record {
          work = at ∷ xs;
          rest = rest;
          done = done;
          order = order;
          tops_are = ap (λ l. at ∷ l) over;
          working = λ none. (placed_known, known_become related registry schema items items' (becomes known) xs (all_front (DenotesTree (HoldsExpression items)) xs rest (subst (AreTrees items) over trees.1)) (working' none).1);
          begun = all_weaker (IsBegun is_settled items (at ∷ xs)) (IsBegun is_settled items' (at ∷ xs)) (placed_begun known (at ∷ xs) xs (λ n other a. a)) done (subst (λ k. AllByRecursion (IsBegun is_settled items (k ∷ xs)) done) same begun);
        }

  -- ---- turn by turn

  module _ (items items' : List AExpr) (at : ℕ) (behind roots : List ℕ) (trees : AreTrees items (at ∷ behind)) (w : Settling is_settled registry schema items (at ∷ behind) roots) where
    settling_places : IsPlaced is_settled measure related turns registry schema items items' at → Settling is_settled registry schema items' (at ∷ behind) roots
    settling_places p = placed_turn items items' at trees.0.tree trees.0.denotes p behind roots w.work w.rest w.done trees w.order w.tops_are w.working w.begun

    settling_finds : (t : Expression) → Denotes (HoldsExpression items) at t → (tops : List ℕ) → IsFound is_settled items items' at → ((op : Op) (inputs : List ℕ) → HoldsExpression items' at op inputs → tops ≡ inputs ++ behind) → Settling is_settled registry schema items' tops roots
    settling_finds (node op ts) d tops found pushed =
        let held = subst (λ l. HoldsExpression l at op d.0) (sym found.same) d.1 in
        subst (λ l. Settling is_settled registry schema l tops roots) (sym found.same) (found_turn items at op ts d.0 d.1 d.2 (found.is (node op ts) d) tops behind roots w.work w.rest w.done (pushed op d.0 held) w.order w.tops_are w.working w.begun)

  pub settling_turn : (items items' : List AExpr) (at : ℕ) (rest stack roots : List ℕ) (before steps : ℕ) → IsTurn is_settled measure related turns registry schema items items' at rest stack before steps → AreTrees items (reverse (rest ++ at ∷ [])) → Settling is_settled registry schema items (reverse (rest ++ at ∷ [])) roots → Settling is_settled registry schema items' (reverse stack) roots
  settling_turn items items' at rest stack roots before steps turn all given =
      let trees = subst (AreTrees items) (top_first rest at) all in
      let w = subst (λ l. Settling is_settled registry schema items l roots) (top_first rest at) given in
      elim turn as (λ _. Settling is_settled registry schema items' (reverse stack) roots) [
        | places placed is counted ↦ subst (λ l. Settling is_settled registry schema items' l roots) (sym (ap reverse is ∙ top_first rest at)) (settling_places items items' at (reverse rest) roots trees w placed)
        | finds found pushed counted ↦ settling_finds items items' at (reverse rest) roots trees w trees.0.tree trees.0.denotes (reverse stack) found (λ op inputs held. ap reverse (pushed op inputs held) ∙ inputs_first rest inputs)
      ]

-- where nothing waits, each root is settled
pub settling_end : (is_settled : Expression → Bool) (registry : Registry) (schema : Columns) (items : List AExpr) (roots : List ℕ) → Settling is_settled registry schema items [] roots → AllByRecursion (DenotesSettled is_settled items) roots
settling_end is_settled registry schema items roots w =
    let none = no_top w.work w.rest w.tops_are in
    let whole : reverse roots ≡ w.done = w.order ∙ ap (λ l. w.done ++ l) none.1 ∙ append-nil w.done in
    let ended = all_ended is_settled items w.done (subst (λ l. AllByRecursion (IsBegun is_settled items l) w.done) none.0 w.begun) in
    subst (AllByRecursion (DenotesSettled is_settled items)) (reverse-reverse roots) (all_reversed (DenotesSettled is_settled items) (reverse roots) (subst (AllByRecursion (DenotesSettled is_settled items)) (sym whole) ended))
