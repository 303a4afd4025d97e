-- Roots of which some are numbers without a type, under a rule that says how often a node is replaced.
use Rattle.std.proofs.Common.{◌≡◌, ◌≢◌, ◌⊎◌, ℕ, ℤ, ◌≤◌, Bool, true, false, List, [], ◌∷◌, ◌++◌, length, map, reverse, Option, Some, Ok, refl, sym, ap, ◌∙◌, subst, arith, inl, inr, ⊎_elim}
use Rattle.std.specs.List.{AllByRecursion}
use Rattle.std.proofs.lemmas.List.{append-nil, append_assoc, reverse-append, reverse-reverse}
use Rattle.plan_types.specs.Types.{Untyped, is_known}
use Rattle.plan_types.specs.Schemas.{Columns}
use Rattle.plan_dsl.specs.Registry.{Registry}
use Rattle.plan_dsl.specs.Literals.{settled}
use Rattle.plan_dsl.specs.Trees.{node}
use Rattle.plan_dsl.specs.Ops.{Op, Expression}
use Rattle.plan_dsl.specs.Typing.{Typed, typing}
use Rattle.plan_dsl.proofs.TypingLemmas.{ok_same, typed_parts}
use Rattle.plan_arena.specs.declared.aexpr.AExpr.{AExpr}
use Rattle.plan_arena.specs.Denotation.{Denotes, DenotesTree}
use Rattle.plan_arena.specs.Layers.{shape_of}
use Rattle.plan_arena.specs.Items.{HoldsExpression, expression_layer}
use Rattle.plan_arena.proofs.DenotationLemmas.{denotes_one, kept}
use Rattle.plan_arena.proofs.ItemLemmas.{expression_laws, grown_held, tree_within}
use Rattle.plan_arena.proofs.NumberLemmas.{all_joined, all_reversed, all_weaker}
use Rattle.plan_coerce.specs.Optimizer.{AreRoots, AreTypedRoots, EndsSettled, IsNumberRoot, IsSettled, IsTypedRoot, StaysLike, StaysLikeBeside}
use Rattle.plan_coerce.specs.Reaching.{Among, IsReached}
use Rattle.plan_coerce.specs.Rules.{IsCongruent, IsLike, IsSteady, IsTransitive, SettlesNoNumber}
use Rattle.plan_coerce.specs.Turns.{IsFound, IsPlaced, IsStopped, IsTurn, finds, places}
use Rattle.plan_coerce.proofs.BesideLemmas.{known_beside, settled_unreached, unreached}
use Rattle.plan_coerce.proofs.NearLemmas.{reach_kept}
use Rattle.plan_coerce.proofs.NumberRootLemmas.{no_inputs, settled_bare}
use Rattle.plan_coerce.proofs.CoercionRuleLemmas.{number_alone}
use Rattle.plan_coerce.proofs.OnceLemmas.{among_back, among_front, among_split}
use Rattle.plan_coerce.proofs.SettledLemmas.{known_typings, number_settled}
use Rattle.plan_coerce.proofs.TurnLemmas.{found_grows, SettledBut, all_waiting, among_reversed, children_grown, inputs_first, like_itself, like_then, placed_like, settled_all, settled_denotes, step, stopped_elsewhere, stopped_like, top_first, turn_stopped, typed_become, typed_inputs, waiting_settled}

-- the node denotes no number without a type
abbrev pub NoNumber : Registry → Columns → List AExpr → ℕ → Type 0
NoNumber registry schema items r = (number : ℤ) (many : Bool) (t : Expression) → Denotes (HoldsExpression items) r t → typing registry schema t ≡ Ok (record { type = Untyped number; many = many }) → ⊥

-- a root that waits is as it was typed, or is a number that stays as it was
pub data Rests (is_settled : Expression → Bool) (registry : Registry) (schema : Columns) (start items : List AExpr) (r : ℕ) : Type 0 where
  typed_rests : NoNumber registry schema start r → IsTypedRoot is_settled registry schema items r → Rests is_settled registry schema start items r
  number_rests : (t : Expression) (number : ℤ) (many : Bool) → Denotes (HoldsExpression start) r t → Denotes (HoldsExpression items) r t → typing registry schema t ≡ Ok (record { type = Untyped number; many = many }) → Rests is_settled registry schema start items r

-- and one that was begun is settled but for what waits
pub data Begun (is_settled : Expression → Bool) (related : Expression → Expression → Type 0) (registry : Registry) (schema : Columns) (start items : List AExpr) (tops : List ℕ) (r : ℕ) : Type 0 where
  typed_begun : NoNumber registry schema start r → IsTypedRoot is_settled registry schema items r → (t : Expression) → SettledBut is_settled items tops r t → Begun is_settled related registry schema start items tops r
  number_begun : (t : Expression) (number : ℤ) (many : Bool) → Denotes (HoldsExpression start) r t → typing registry schema t ≡ Ok (record { type = Untyped number; many = many }) → (v : Expression) (own : Typed) → SettledBut is_settled items tops r v → IsLike related registry schema (settled t) v → typing registry schema v ≡ Ok own → is_known own.type ≡ true → Begun is_settled related registry schema start items tops r
  number_found : (t : Expression) (number : ℤ) (many : Bool) → Denotes (HoldsExpression start) r t → typing registry schema t ≡ Ok (record { type = Untyped number; many = many }) → Denotes (HoldsExpression items) r t → IsSettled is_settled t → Begun is_settled related registry schema start items tops r

-- the work so far: what is worked on waits above the roots that rest
pub record Working (is_settled : Expression → Bool) (related : Expression → Expression → Type 0) (registry : Registry) (schema : Columns) (start items : List AExpr) (tops roots : List ℕ) : Type 0 where
  pub work : List ℕ
  pub rest : List ℕ
  pub done : List ℕ
  pub order : reverse roots ≡ done ++ rest
  pub tops_are : tops ≡ work ++ rest
  pub working : AreTypedRoots is_settled registry schema items work
  pub resting : AllByRecursion (Rests is_settled registry schema start items) rest
  pub begun : AllByRecursion (Begun is_settled related registry schema start items tops) done
  pub trees : StaysLikeBeside related registry schema start items roots
  pub reach : (n x : ℕ) → DenotesTree (HoldsExpression start) n → IsReached items (n ∷ []) x → (length start ≤ x) ⊎ IsReached start (n ∷ []) x

-- a list in two parts, turned round
turned_parts : (roots done rest : List ℕ) (m : ℕ) → reverse roots ≡ done ++ m ∷ rest → roots ≡ reverse rest ++ m ∷ reverse done
turned_parts roots done rest m is =
    sym (reverse-reverse roots) ∙ ap reverse is ∙ reverse-append done (m ∷ rest) ∙ ap (λ l. l ++ reverse done) (front rest m) ∙ append_assoc (reverse rest) (m ∷ []) (reverse done) where
      front : (xs : List ℕ) (x : ℕ) → reverse (x ∷ xs) ≡ reverse xs ++ x ∷ []
      front xs x = reverse-append (x ∷ []) xs

all_with : (P Q : ℕ → Type 0) (ns : List ℕ) → ((n : ℕ) → Among ns n → P n → Q n) → AllByRecursion P ns → AllByRecursion Q ns
all_with P Q [] each all = tt
all_with P Q (n ∷ ns) each all = (each n (inl refl) all.0, all_with P Q ns (λ m a. each m (inr a)) all.1)

-- what is at the top: something that is worked on, or a number that rests
pub data TopIs (is_settled : Expression → Bool) (related : Expression → Expression → Type 0) (registry : Registry) (schema : Columns) (start items : List AExpr) (at : ℕ) (behind roots resting : List ℕ) : Type 0 where
  top_typed : (work rest done : List ℕ) → behind ≡ work ++ rest → IsTypedRoot is_settled registry schema items at → AreTypedRoots is_settled registry schema items work → AllByRecursion (Rests is_settled registry schema start items) rest → AllByRecursion (Begun is_settled related registry schema start items (at ∷ behind)) done → reverse roots ≡ done ++ rest → TopIs is_settled related registry schema start items at behind roots resting
  top_number : (rest : List ℕ) → resting ≡ at ∷ rest → behind ≡ rest → (t : Expression) (number : ℤ) (many : Bool) → Denotes (HoldsExpression start) at t → Denotes (HoldsExpression items) at t → typing registry schema t ≡ Ok (record { type = Untyped number; many = many }) → TopIs is_settled related registry schema start items at behind roots resting

head_is : (a b : ℕ) (xs ys : List ℕ) → a ∷ xs ≡ b ∷ ys → a ≡ b
head_is a b xs ys e = cc

tail_is : (a b : ℕ) (xs ys : List ℕ) → a ∷ xs ≡ b ∷ ys → xs ≡ ys
tail_is a b xs ys e = cc

no_top : (a : ℕ) (xs : List ℕ) → a ∷ xs ≡ [] → ⊥
no_top a xs e = cc

front_empty : (xs ys : List ℕ) → [] ≡ xs ++ ys → xs ≡ []
front_empty [] ys e = refl
front_empty (x ∷ xs) ys e = cc

back_empty : (xs ys : List ℕ) → [] ≡ xs ++ ys → ys ≡ []
back_empty [] ys e = sym e
back_empty (x ∷ xs) ys e = cc

module _ (is_settled : Expression → Bool) (measure : Expression → ℕ) (related : Expression → Expression → Type 0) (turns : Option ℕ) (limit : ℕ) (is : turns ≡ Some limit) (registry : Registry) (schema : Columns) (congruent : IsCongruent related registry schema) (transitive : IsTransitive related) (steady : IsSteady is_settled related registry schema) (none : SettlesNoNumber is_settled registry schema) (start : List AExpr) (roots : List ℕ) (are : AreRoots is_settled registry schema start roots) where
  typed_no_number : (r : ℕ) → IsTypedRoot is_settled registry schema start r → NoNumber registry schema start r
  typed_no_number r root number many t d h =
      let one = denotes_one (shape_of (map expression_layer start)) (HoldsExpression start) (expression_laws start) r root.tree t root.denotes d in
      let same = ok_same (typing registry schema t) root.typed _ (ap (typing registry schema) (sym one) ∙ root.is) h in
      let untyped : true ≡ false = sym (root.known none) ∙ ap (λ (x : Typed). is_known x.type) same in
      cc

  rests_first : (r : ℕ) → (IsTypedRoot is_settled registry schema start r ⊎ IsNumberRoot registry schema start r) → Rests is_settled registry schema start start r
  rests_first r kind = ⊎_elim (λ t. typed_rests (typed_no_number r t) t) (λ n. number_rests n.tree n.number n.many n.denotes n.denotes n.is) kind

  pub working_start : Working is_settled related registry schema start start (reverse roots) roots
  working_start = record {
    work = [];
    rest = reverse roots;
    done = [];
    order = refl;
    tops_are = refl;
    working = tt;
    resting = all_weaker (λ n. IsTypedRoot is_settled registry schema start n ⊎ IsNumberRoot registry schema start n) (Rests is_settled registry schema start start) rests_first (reverse roots) (all_reversed (λ n. IsTypedRoot is_settled registry schema start n ⊎ IsNumberRoot registry schema start n) roots are.each);
    begun = tt;
    trees = λ n t d away. record { tree = t; denotes = d; like = like_itself related registry schema congruent t };
    reach = λ n x tree r. inr r;
  }

  -- ---- a turn at a typed node

  module _ (items items' : List AExpr) (at : ℕ) (work rest done : List ℕ) (w : Working is_settled related registry schema start items (at ∷ (work ++ rest)) roots) (root : IsTypedRoot is_settled registry schema items at) (working : AreTypedRoots is_settled registry schema items work) (resting : AllByRecursion (Rests is_settled registry schema start items) rest) (begun : AllByRecursion (Begun is_settled related registry schema start items (at ∷ (work ++ rest))) done) (order : reverse roots ≡ done ++ rest) (stopped : IsStopped is_settled measure related turns registry schema items items' at) where
    becomes : StaysLike related registry schema items items'
    becomes = stopped_like is_settled measure related turns registry schema congruent items items' at root stopped

    keeps : (n : ℕ) (op : Op) (inputs : List ℕ) → n ≢ at → HoldsExpression items n op inputs → HoldsExpression items' n op inputs
    keeps = stopped_elsewhere is_settled measure related turns registry schema items items' at stopped

    -- a number that rests doesn't lead to what is typed
    number_stays : (r : ℕ) (t : Expression) (number : ℤ) (many : Bool) → Denotes (HoldsExpression items) r t → typing registry schema t ≡ Ok (record { type = Untyped number; many = many }) → Denotes (HoldsExpression items') r t
    number_stays r t number many d h = unreached items items' at keeps r t d (known_beside registry schema items number many r t d h at root.tree root.typed root.denotes root.is (root.known none))

    still_rests : (r : ℕ) → Rests is_settled registry schema start items r → Rests is_settled registry schema start items' r
    still_rests r state = elim state as (λ _. Rests is_settled registry schema start items' r) [
      | typed_rests plain t ↦ typed_rests plain (typed_become is_settled related registry schema items items' becomes r t)
      | number_rests t number many before now h ↦ number_rests t number many before (number_stays r t number many now h) h
    ]

    beside_on : StaysLikeBeside related registry schema start items' roots
    beside_on n t d away =
        let one = w.trees n t d away in
        let two = becomes n one.tree one.denotes in
        record { tree = two.tree; denotes = two.denotes; like = like_then related registry schema congruent transitive t one.tree two.tree one.like two.like }

    module _ (tops : List ℕ) (waits : (n : ℕ) → n ≢ at → Among (at ∷ (work ++ rest)) n → Among tops n) (here : (u : Expression) → Denotes (HoldsExpression items) at u → (v : Expression) × SettledBut is_settled items' tops at v × IsLike related registry schema u v) where
      still_begun : (r : ℕ) → Begun is_settled related registry schema start items (at ∷ (work ++ rest)) r → Begun is_settled related registry schema start items' tops r
      still_begun r state = elim state as (λ _. Begun is_settled related registry schema start items' tops r) [
        | typed_begun plain kind t s ↦
            let now = step is_settled related registry schema congruent steady items items' at (at ∷ (work ++ rest)) tops keeps becomes waits here r t s in
            typed_begun plain (typed_become is_settled related registry schema items items' becomes r kind) now.0 now.1
        | number_begun t number many before h v own s like is_typed known ↦
            let now = step is_settled related registry schema congruent steady items items' at (at ∷ (work ++ rest)) tops keeps becomes waits here r v s in
            number_begun t number many before h now.0 own now.1 (like_then related registry schema congruent transitive (settled t) v now.0 like now.2) (now.2.same.typing ∙ is_typed) known
        | number_found t number many before h now calm ↦ number_found t number many before h (number_stays r t number many now h) calm
      ]

  -- a root that is typed is begun as it comes up
  begin_typed : (items : List AExpr) (at : ℕ) (rest : List ℕ) (tops : List ℕ) (w : Working is_settled related registry schema start items tops roots) → w.work ≡ [] → w.rest ≡ at ∷ rest → NoNumber registry schema start at → IsTypedRoot is_settled registry schema items at → (done : List ℕ) × (reverse roots ≡ done ++ rest) × AllByRecursion (Begun is_settled related registry schema start items tops) done
  begin_typed items at rest tops w none_worked comes plain root =
      let there : tops ≡ at ∷ rest = w.tops_are ∙ ap (λ l. l ++ w.rest) none_worked ∙ comes in
      let waits = subst (λ l. Among l at) (sym there) (inl refl) in (
        w.done ++ at ∷ [],
        w.order ∙ ap (λ l. w.done ++ l) comes ∙ sym (append_assoc w.done (at ∷ []) rest),
        all_joined (Begun is_settled related registry schema start items tops) w.done (at ∷ []) w.begun (typed_begun plain root root.tree (waiting_settled is_settled items tops at root.tree waits root.denotes), tt),
      )

  module _ (items items' : List AExpr) (at : ℕ) (finite : (n : ℕ) → DenotesTree (HoldsExpression start) n → DenotesTree (HoldsExpression items) n) (longer : length start ≤ length items) (rooted : (n : ℕ) → Among roots n → DenotesTree (HoldsExpression start) n) (stopped : IsStopped is_settled measure related turns registry schema items items' at) where
    reach_on : (tops : List ℕ) → Working is_settled related registry schema start items tops roots → (n x : ℕ) → DenotesTree (HoldsExpression start) n → IsReached items' (n ∷ []) x → (length start ≤ x) ⊎ IsReached start (n ∷ []) x
    reach_on tops w n x tree r = ⊎_elim (λ le. inl (omega (arith, le, longer))) (λ old. w.reach n x tree old) (reach_kept is_settled measure related turns limit is registry schema items items' at stopped n x (finite n tree) r)

    stops_keeps : (n : ℕ) (op : Op) (inputs : List ℕ) → n ≢ at → HoldsExpression items n op inputs → HoldsExpression items' n op inputs
    stops_keeps = stopped_elsewhere is_settled measure related turns registry schema items items' at stopped

    -- ---- a turn at a number that rests

    module _ (rest : List ℕ) (tops : List ℕ) (w : Working is_settled related registry schema start items tops roots) (comes : w.rest ≡ at ∷ rest) (t : Expression) (number : ℤ) (many : Bool) (before : Denotes (HoldsExpression start) at t) (now : Denotes (HoldsExpression items) at t) (h : typing registry schema t ≡ Ok (record { type = Untyped number; many = many })) where
      is_number : IsNumberRoot registry schema start at
      is_number = record { tree = t; denotes = before; number = number; many = many; is = h }

      parts : roots ≡ reverse rest ++ at ∷ reverse w.done
      parts = turned_parts roots w.done rest at (w.order ∙ ap (λ l. w.done ++ l) comes)

      among_roots : Among roots at
      among_roots = subst (λ l. Among l at) (sym parts) (among_back (reverse rest) (at ∷ reverse w.done) at (inl refl))

      -- what didn't lead to it doesn't
      away : (n : ℕ) → DenotesTree (HoldsExpression start) n → (IsReached start (n ∷ []) at → ⊥) → IsReached items (n ∷ []) at → ⊥
      away n tree apart r =
          ⊎_elim (λ le. omega (arith, le, tree_within start at (record { tree = t; denotes = before }))) apart (w.reach n at tree r)

      other_root : (n : ℕ) → Among (reverse rest ++ reverse w.done) n → IsReached items (n ∷ []) at → ⊥
      other_root n a =
          let there = subst (λ l. Among l n) (sym parts) (⊎_elim (λ b. among_front (reverse rest) (at ∷ reverse w.done) n b) (λ b. among_back (reverse rest) (at ∷ reverse w.done) n (inr b)) (among_split (reverse rest) (reverse w.done) n a)) in
          away n (rooted n there) (are.apart (reverse rest) (reverse w.done) at parts is_number n a)

      beside_number : StaysLikeBeside related registry schema start items' roots
      beside_number n u d apart =
          let one = w.trees n u d apart in
          record { tree = one.tree; denotes = unreached items items' at stops_keeps n one.tree one.denotes (away n (record { tree = u; denotes = d }) (apart at among_roots is_number)); like = one.like }

      rests_beside : (n : ℕ) → Among rest n → Rests is_settled registry schema start items n → Rests is_settled registry schema start items' n
      rests_beside n a state =
          let apart = other_root n (among_front (reverse rest) (reverse w.done) n (among_reversed rest n a)) in
          elim state as (λ _. Rests is_settled registry schema start items' n) [
            | typed_rests plain k ↦ typed_rests plain (record { tree = k.tree; denotes = unreached items items' at stops_keeps n k.tree k.denotes apart; typed = k.typed; is = k.is; known = k.known })
            | number_rests u k m old new g ↦ number_rests u k m old (unreached items items' at stops_keeps n u new apart) g
          ]

      module _ (tops' : List ℕ) (waits : (n : ℕ) → n ≢ at → Among tops n → Among tops' n) where
        begun_beside : (n : ℕ) → Among w.done n → Begun is_settled related registry schema start items tops n → Begun is_settled related registry schema start items' tops' n
        begun_beside n a state =
            let apart = other_root n (among_back (reverse rest) (reverse w.done) n (among_reversed w.done n a)) in
            elim state as (λ _. Begun is_settled related registry schema start items' tops' n) [
              | typed_begun plain k u s ↦ typed_begun plain (record { tree = k.tree; denotes = unreached items items' at stops_keeps n k.tree k.denotes apart; typed = k.typed; is = k.is; known = k.known }) u (settled_unreached items items' at stops_keeps is_settled tops tops' waits n u s apart)
              | number_begun u k m old g v own s like typed known ↦ number_begun u k m old g v own (settled_unreached items items' at stops_keeps is_settled tops tops' waits n v s apart) like typed known
              | number_found u k m old g new calm ↦ number_found u k m old g (unreached items items' at stops_keeps n u new apart) calm
            ]

        -- with the number begun
        goes_beside : (work : List ℕ) → tops' ≡ work ++ rest → AreTypedRoots is_settled registry schema items' work → Begun is_settled related registry schema start items' tops' at → Working is_settled related registry schema start items' tops' roots
        goes_beside work over typed here = record {
          work = work;
          rest = rest;
          done = w.done ++ at ∷ [];
          order = w.order ∙ ap (λ l. w.done ++ l) comes ∙ sym (append_assoc w.done (at ∷ []) rest);
          tops_are = over;
          working = typed;
          resting = all_with (Rests is_settled registry schema start items) (Rests is_settled registry schema start items') rest rests_beside (subst (AllByRecursion (Rests is_settled registry schema start items)) comes w.resting).1;
          begun = all_joined (Begun is_settled related registry schema start items' tops') w.done (at ∷ []) (all_with (Begun is_settled related registry schema start items tops) (Begun is_settled related registry schema start items' tops') w.done begun_beside w.begun) (here, tt);
          trees = beside_number;
          reach = reach_on tops w;
        }

    -- the number is replaced, or found settled
    number_places : (rest tops : List ℕ) (w : Working is_settled related registry schema start items tops roots) (comes : w.rest ≡ at ∷ rest) (t : Expression) (number : ℤ) (many : Bool) → Denotes (HoldsExpression start) at t → Denotes (HoldsExpression items) at t → typing registry schema t ≡ Ok (record { type = Untyped number; many = many }) → tops ≡ at ∷ rest → IsPlaced is_settled measure related turns registry schema items items' at → Working is_settled related registry schema start items' tops roots
    number_places rest tops w comes t number many before now h over p =
        let rep = p.answer t now in
        let own = number_alone registry schema number t many h in
        let like = rep.like _ h in
        let typed = like.same.typing ∙ (number_settled registry schema number own.0 own.1 t many h).typed in
        let root : IsTypedRoot is_settled registry schema items' at = record { tree = rep.tree; denotes = rep.denotes; typed = _; is = typed; known = λ all. rep.known _ typed } in
        let waits = subst (λ l. Among l at) (sym over) (inl refl) in
        goes_beside rest tops w comes t number many before now h tops (λ n other a. a) (at ∷ []) over (root, tt) (number_begun t number many before h rep.tree _ (waiting_settled is_settled items' tops at rep.tree waits rep.denotes) like typed (rep.known _ typed))

    number_finds : (rest tops tops' : List ℕ) (w : Working is_settled related registry schema start items tops roots) (comes : w.rest ≡ at ∷ rest) (t : Expression) (number : ℤ) (many : Bool) → Denotes (HoldsExpression start) at t → Denotes (HoldsExpression items) at t → typing registry schema t ≡ Ok (record { type = Untyped number; many = many }) → tops ≡ at ∷ rest → IsFound is_settled items items' at → ((op : Op) (inputs : List ℕ) → HoldsExpression items' at op inputs → tops' ≡ inputs ++ rest) → Working is_settled related registry schema start items' tops' roots
    number_finds rest tops tops' w comes (node op ts) number many before now h over found pushed =
        let calm = found.is (node op ts) now in
        let children = settled_bare is_settled measure related turns registry schema congruent transitive steady none at number many op ts h calm in
        let there = kept (HoldsExpression items) (HoldsExpression items') (grown_held items items' (found_grows found)) at (node op ts) now in
        let inputs = no_inputs items' there.0 ts children there.2 in
        let left : tops' ≡ rest = pushed op there.0 there.1 ∙ ap (λ l. l ++ rest) inputs in
        let waits : (n : ℕ) → n ≢ at → Among tops n → Among tops' n = λ n other a. subst (λ l. Among l n) (sym left) (⊎_elim (λ e. absurd (other e)) (λ b. b) (subst (λ l. Among l n) over a)) in
        let each : IsSettled is_settled (node op ts) = subst (λ us. IsSettled is_settled (node op us)) (sym children) (subst (λ us. is_settled (node op us) ≡ true) children calm, tt) in
        goes_beside rest tops w comes (node op ts) number many before now h tops' waits [] left tt (number_found (node op ts) number many before h there each)

    -- ---- a turn at a typed node

    module _ (work rest done : List ℕ) (w : Working is_settled related registry schema start items (at ∷ (work ++ rest)) roots) (root : IsTypedRoot is_settled registry schema items at) (working : AreTypedRoots is_settled registry schema items work) (resting : AllByRecursion (Rests is_settled registry schema start items) rest) (begun : AllByRecursion (Begun is_settled related registry schema start items (at ∷ (work ++ rest))) done) (order : reverse roots ≡ done ++ rest) where
      typed_stops : StaysLikeBeside related registry schema start items' roots
      typed_stops = beside_on items items' at work rest done w root working resting begun order stopped

      typed_goes : (tops work' : List ℕ) → tops ≡ work' ++ rest → AreTypedRoots is_settled registry schema items' work' → ((n : ℕ) → n ≢ at → Among (at ∷ (work ++ rest)) n → Among tops n) → ((u : Expression) → Denotes (HoldsExpression items) at u → (v : Expression) × SettledBut is_settled items' tops at v × IsLike related registry schema u v) → Working is_settled related registry schema start items' tops roots
      typed_goes tops work' over typed waits here = record {
        work = work';
        rest = rest;
        done = done;
        order = order;
        tops_are = over;
        working = typed;
        resting = all_weaker (Rests is_settled registry schema start items) (Rests is_settled registry schema start items') (still_rests items items' at work rest done w root working resting begun order stopped) rest resting;
        begun = all_weaker (Begun is_settled related registry schema start items (at ∷ (work ++ rest))) (Begun is_settled related registry schema start items' tops) (still_begun items items' at work rest done w root working resting begun order stopped tops waits here) done begun;
        trees = typed_stops;
        reach = reach_on (at ∷ (work ++ rest)) w;
      }

      others_typed : AreTypedRoots is_settled registry schema items' work
      others_typed = all_weaker (IsTypedRoot is_settled registry schema items) (IsTypedRoot is_settled registry schema items') (typed_become is_settled related registry schema items items' (becomes items items' at work rest done w root working resting begun order stopped)) work working

      typed_places : IsPlaced is_settled measure related turns registry schema items items' at → Working is_settled related registry schema start items' (at ∷ (work ++ rest)) roots
      typed_places p =
          let now = typed_become is_settled related registry schema items items' (becomes items items' at work rest done w root working resting begun order stopped) at root in
          typed_goes (at ∷ (work ++ rest)) (at ∷ work) refl (now, others_typed) (λ n other a. a) (λ u e.
          let like = placed_like is_settled measure related turns registry schema congruent items items' at root p u e in
          (like.tree, waiting_settled is_settled items' (at ∷ (work ++ rest)) at like.tree (inl refl) like.denotes, like.like))

      typed_found : (tops : List ℕ) (tree : Expression) → Denotes (HoldsExpression items) at tree → typing registry schema tree ≡ Ok root.typed → IsFound is_settled items items' at → ((op : Op) (inputs : List ℕ) → HoldsExpression items' at op inputs → tops ≡ inputs ++ (work ++ rest)) → Working is_settled related registry schema start items' tops roots
      typed_found tops (node op ts) d typed found pushed =
          let held = grown_held items items' (found_grows found) at op d.0 d.1 in
          let below = children_grown items items' (found_grows found) d.0 ts d.2 in
          let parts = typed_parts registry schema op ts root.typed typed in
          let calm = found.is (node op ts) d in
          let over = pushed op d.0 held in
          let inputs = typed_inputs is_settled registry schema items' d.0 ts parts.below below parts.children_typed (λ all. known_typings registry schema ts parts.below (all op ts calm) parts.children_typed) in
          typed_goes tops (d.0 ++ work) (over ∙ sym (append_assoc d.0 work rest)) (all_joined (IsTypedRoot is_settled registry schema items') d.0 work inputs others_typed)
          (λ n other a. subst (λ l. Among l n) (sym over) (among_back d.0 (work ++ rest) n (⊎_elim (λ e. absurd (other e)) (λ b. b) a)))
          (λ u e.
          let one = denotes_one (shape_of (map expression_layer items)) (HoldsExpression items) (expression_laws items) at (node op ts) u d e in
          let waits : (n : ℕ) → Among d.0 n → Among tops n = λ n a. subst (λ l. Among l n) (sym over) (among_front d.0 (work ++ rest) n a) in
          subst (λ t. (v : Expression) × SettledBut is_settled items' tops at v × IsLike related registry schema t v) one
          (node op ts, inr (d.0, held, calm, all_waiting is_settled items' tops d.0 ts waits below), like_itself related registry schema congruent (node op ts)))

  -- ---- any turn

  top_rests : (items : List AExpr) (at : ℕ) (behind : List ℕ) (w : Working is_settled related registry schema start items (at ∷ behind) roots) → w.work ≡ [] → (rest : List ℕ) → w.rest ≡ rest → AllByRecursion (Rests is_settled registry schema start items) rest → TopIs is_settled related registry schema start items at behind roots w.rest
  top_rests items at behind w none_worked [] comes all = absurd (no_top at behind (w.tops_are ∙ ap (λ l. l ++ w.rest) none_worked ∙ comes))
  top_rests items at behind w none_worked (r ∷ rest) comes all =
      let over : at ∷ behind ≡ r ∷ rest = w.tops_are ∙ ap (λ l. l ++ w.rest) none_worked ∙ comes in
      let same = sym (head_is at r behind rest over) in
      let left = tail_is at r behind rest over in
      let here : w.rest ≡ at ∷ rest = comes ∙ ap (λ k. k ∷ rest) same in
      elim all.0 as (λ _. TopIs is_settled related registry schema start items at behind roots w.rest) [
        | typed_rests plain k ↦
            let root = subst (IsTypedRoot is_settled registry schema items) same k in
            let plain_here = subst (NoNumber registry schema start) same plain in
            let b = begin_typed items at rest (at ∷ behind) w none_worked here plain_here root in
            top_typed [] rest b.0 left root tt all.1 b.2 b.1
        | number_rests t number many before now h ↦ top_number rest here left t number many (subst (λ k. Denotes (HoldsExpression start) k t) same before) (subst (λ k. Denotes (HoldsExpression items) k t) same now) h
      ]

  top_works : (items : List AExpr) (at : ℕ) (behind : List ℕ) (w : Working is_settled related registry schema start items (at ∷ behind) roots) → (work : List ℕ) → w.work ≡ work → AreTypedRoots is_settled registry schema items work → TopIs is_settled related registry schema start items at behind roots w.rest
  top_works items at behind w [] comes all = top_rests items at behind w comes w.rest refl w.resting
  top_works items at behind w (a ∷ work) comes all =
      let over : at ∷ behind ≡ a ∷ (work ++ w.rest) = w.tops_are ∙ ap (λ l. l ++ w.rest) comes in
      let same = sym (head_is at a behind (work ++ w.rest) over) in
      top_typed work w.rest w.done (tail_is at a behind (work ++ w.rest) over) (subst (IsTypedRoot is_settled registry schema items) same all.0) all.1 w.resting w.begun w.order

  top_of : (items : List AExpr) (at : ℕ) (behind : List ℕ) (w : Working is_settled related registry schema start items (at ∷ behind) roots) → TopIs is_settled related registry schema start items at behind roots w.rest
  top_of items at behind w = top_works items at behind w w.work refl w.working

  -- what is at the top is typed
  pub working_typed : (items : List AExpr) (at : ℕ) (behind : List ℕ) → Working is_settled related registry schema start items (at ∷ behind) roots → (t : Expression) × (own : Typed) × Denotes (HoldsExpression items) at t × (typing registry schema t ≡ Ok own)
  working_typed items at behind w = elim (top_of items at behind w) as (λ _. (t : Expression) × (own : Typed) × Denotes (HoldsExpression items) at t × (typing registry schema t ≡ Ok own)) [
    | top_typed work rest done left root working resting begun order ↦ (root.tree, root.typed, root.denotes, root.is)
    | top_number rest comes left t number many before now h ↦ (t, _, now, h)
  ]

  module _ (items items' : List AExpr) (at : ℕ) (finite : (n : ℕ) → DenotesTree (HoldsExpression start) n → DenotesTree (HoldsExpression items) n) (longer : length start ≤ length items) (rooted : (n : ℕ) → Among roots n → DenotesTree (HoldsExpression start) n) where
    pub working_stops : (behind : List ℕ) → IsStopped is_settled measure related turns registry schema items items' at → Working is_settled related registry schema start items (at ∷ behind) roots → StaysLikeBeside related registry schema start items' roots
    working_stops behind stopped w = elim (top_of items at behind w) as (λ _. StaysLikeBeside related registry schema start items' roots) [
      | top_typed work rest done left root working resting begun order ↦
          let now = subst (λ l. Working is_settled related registry schema start items (at ∷ l) roots) left w in
          let all = subst (λ l. AllByRecursion (Begun is_settled related registry schema start items (at ∷ l)) done) left begun in
          typed_stops items items' at finite longer rooted stopped work rest done now root working resting all order
      | top_number rest comes left t number many before now h ↦ beside_number items items' at finite longer rooted stopped rest (at ∷ behind) w comes t number many before now h
    ]

    pub working_turn : (rest stack : List ℕ) (before steps : ℕ) → IsTurn is_settled measure related turns registry schema items items' at rest stack before steps → Working is_settled related registry schema start items (reverse (rest ++ at ∷ [])) roots → Working is_settled related registry schema start items' (reverse stack) roots
    working_turn behind stack before steps turn given =
        let w = subst (λ l. Working is_settled related registry schema start items l roots) (top_first behind at) given in
        let stopped = turn_stopped is_settled measure related turns registry schema items items' at behind stack before steps turn in
        elim (top_of items at (reverse behind) w) as (λ _. Working is_settled related registry schema start items' (reverse stack) roots) [
          | top_typed work rest done left root working resting begun order ↦
              let now = subst (λ l. Working is_settled related registry schema start items (at ∷ l) roots) left w in
              let all = subst (λ l. AllByRecursion (Begun is_settled related registry schema start items (at ∷ l)) done) left begun in
              elim turn as (λ _. Working is_settled related registry schema start items' (reverse stack) roots) [
                | places placed over counted ↦ subst (λ l. Working is_settled related registry schema start items' l roots) (sym (ap reverse over ∙ top_first behind at ∙ ap (λ l. at ∷ l) left)) (typed_places items items' at finite longer rooted stopped work rest done now root working resting all order placed)
                | finds found pushed counted ↦ typed_found items items' at finite longer rooted stopped work rest done now root working resting all order (reverse stack) root.tree root.denotes root.is found (λ op inputs held. ap reverse (pushed op inputs held) ∙ inputs_first behind inputs ∙ ap (λ l. inputs ++ l) left)
              ]
          | top_number rest comes left t number many old new h ↦
              let over_all : at ∷ reverse behind ≡ at ∷ rest = ap (λ l. at ∷ l) left in
              elim turn as (λ _. Working is_settled related registry schema start items' (reverse stack) roots) [
                | places placed over counted ↦ subst (λ l. Working is_settled related registry schema start items' l roots) (sym (ap reverse over ∙ top_first behind at)) (number_places items items' at finite longer rooted stopped rest (at ∷ reverse behind) w comes t number many old new h over_all placed)
                | finds found pushed counted ↦ number_finds items items' at finite longer rooted stopped rest (at ∷ reverse behind) (reverse stack) w comes t number many old new h over_all found (λ op inputs held. ap reverse (pushed op inputs held) ∙ inputs_first behind inputs ∙ ap (λ l. inputs ++ l) left)
              ]
        ]

  -- ---- the end

  one_tree : (items : List AExpr) (n : ℕ) (t u : Expression) → Denotes (HoldsExpression items) n t → Denotes (HoldsExpression items) n u → t ≡ u
  one_tree items = denotes_one (shape_of (map expression_layer items)) (HoldsExpression items) (expression_laws items)

  ends : (items : List AExpr) (r : ℕ) → Begun is_settled related registry schema start items [] r → EndsSettled is_settled related registry schema start items r
  ends items r state = elim state as (λ _. EndsSettled is_settled related registry schema start items r) [
    | typed_begun plain k t s ↦ record {
      each = record { tree = t; denotes = settled_denotes is_settled items [] r t s; each = settled_all is_settled items r t s };
      number = λ number many u d h. absurd (plain number many u d h);
    }
    | number_begun t number many before h v own s like typed known ↦
        let denotes = settled_denotes is_settled items [] r v s in
        let each = settled_all is_settled items r v s in
        record {
          each = record { tree = v; denotes = denotes; each = each };
          number = λ k m u d g. record { tree = v; denotes = denotes; each = each; like = inl (subst (λ x. IsLike related registry schema (settled x) v) (one_tree start r t u before d) like) };
        }
    | number_found t number many before h now calm ↦ record {
      each = record { tree = t; denotes = now; each = calm };
      number = λ k m u d g. record { tree = t; denotes = now; each = calm; like = inr (one_tree start r t u before d) };
    }
  ]

  pub working_end : (items : List AExpr) → Working is_settled related registry schema start items [] roots → AllByRecursion (EndsSettled is_settled related registry schema start items) roots
  working_end items w =
      let whole : reverse roots ≡ w.done = w.order ∙ ap (λ l. w.done ++ l) (back_empty w.work w.rest w.tops_are) ∙ append-nil w.done in
      let done = all_weaker (Begun is_settled related registry schema start items []) (EndsSettled is_settled related registry schema start items) (ends items) w.done w.begun in
      subst (AllByRecursion (EndsSettled is_settled related registry schema start items)) (ap reverse (sym whole) ∙ reverse-reverse roots) (all_reversed (EndsSettled is_settled related registry schema start items) w.done done)
