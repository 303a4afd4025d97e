-- Coercion over a work stack, by any rule: each node that is reached is settled, but for what waits.
use Rattle.std.proofs.Common.{◌≡◌, ◌≢◌, ◌⊎◌, ◌↔◌, ℕ, ℤ, IsTrue, is_some, ◌≤◌, Bool, true, false, List, [], ◌∷◌, ◌++◌, length, map, set, reverse, Option, None, Some, Result, Ok, Err, OnOk, OnErr, MatchOption, refl, sym, ap, ◌∙◌, subst, arith, inl, inr, ⊎_elim}
use Rattle.std.specs.List.{AllByRecursion}
use Rattle.std.proofs.lemmas.Bool.{false≢true}
use Rattle.std.proofs.lemmas.Grind.{reverse_onto}
use Rattle.std.proofs.lemmas.List.{append-nil, reverse-append, reverse-reverse}
use Rattle.plan_types.specs.Errors.{IsRefusal, broken, no_memory, no_room}
use Rattle.plan_types.specs.declared.error.ErrorKind.{ErrorKind}
use Rattle.plan_types.specs.declared.error.PlanError.{PlanError}
use Rattle.plan_types.specs.Types.{Untyped, is_known, ty}
use Rattle.plan_types.specs.Schemas.{Columns}
use Rattle.plan_dsl.specs.Registry.{Registry}
use Rattle.plan_dsl.specs.Literals.{settled}
use Rattle.plan_dsl.specs.Trees.{Trees, node, no_more, more, AllRelated}
use Rattle.plan_dsl.specs.Ops.{Op, Expression}
use Rattle.plan_dsl.specs.Typing.{Typed, typing, typing_all}
use Rattle.plan_dsl.proofs.SameLemmas.{same_itself}
use Rattle.plan_dsl.proofs.TypingLemmas.{by_children, ok_same, typed_parts}
use Rattle.plan_arena.specs.declared.aexpr.AExpr.{AExpr}
use Rattle.plan_arena.specs.Denotation.{Denotes, DenoteAll, DenotesTree}
use Rattle.plan_arena.specs.Layers.{shape_of}
use Rattle.plan_arena.specs.Items.{Grows, HoldsExpression, expression_layer}
use Rattle.plan_arena.proofs.DenotationLemmas.{denotes_one, kept, kept_tree, replaced, same_or_other}
use Rattle.plan_arena.proofs.ItemLemmas.{expression_laws, grown_held, length-grown}
use Rattle.plan_arena.proofs.NumberLemmas.{all_joined, all_reversed, all_weaker}
use Rattle.plan_coerce.specs.Optimizer.{AreSettled, AreTypedRoots, DenotesLike, DenotesSettled, IsCoercionRefusal, IsSettled, IsTypedRoot, StaysFinite, StaysLike}
use Rattle.plan_coerce.specs.Reaching.{Among, IsClosed, StaysOnce}
use Rattle.plan_coerce.specs.Rules.{ExtendsUnless, IsCongruent, IsLike, IsReplacement, IsSteady, IsTransitive, KeepsNone, KeepsNumber, NeverForgets, SettlesNoNumber}
use Rattle.plan_infer.specs.declared.type_table.Inferred.{Inferred}
use Rattle.plan_infer.specs.declared.type_table.TypeTable.{TypeTable}
use Rattle.plan_infer.specs.KeptTypes.{Extends, IsKept, IsRight, KeepsEntry, typed_of}
use Rattle.plan_infer.proofs.TableLemmas.{keeps_one, kept_typing}
use Rattle.plan_coerce.specs.Turns.{IsFound, IsPlaced, IsStopped, IsTurn, TurnKeeps, finds, places}
use Rattle.plan_coerce.proofs.CoercionLemmas.{written_elsewhere}
use Rattle.plan_coerce.proofs.FrameLemmas.{frames_then, node_on_frames, on_frames}
use Rattle.plan_coerce.proofs.OnceLemmas.{among_back, among_front}
use Rattle.plan_coerce.proofs.SettledLemmas.{known_settled, known_typings}
use Rattle.std.proofs.Math.ListN.{length-set}

-- ---- the stack from its top on

pub among_reversed : (ns : List ℕ) (n : ℕ) → Among ns n → Among (reverse ns) n
among_reversed [] n a = a
among_reversed (m ∷ ms) n a =
    subst (λ l. Among l n) (sym (reverse_onto ms m [])) (⊎_elim (λ e. among_back (reverse ms) (m ∷ []) n (inl e)) (λ b. among_front (reverse ms) (m ∷ []) n (among_reversed ms n b)) a)

pub top_first : (rest : List ℕ) (at : ℕ) → reverse (rest ++ at ∷ []) ≡ at ∷ reverse rest
top_first rest at = reverse-append rest (at ∷ [])

pub inputs_first : (rest inputs : List ℕ) → reverse (rest ++ reverse inputs) ≡ inputs ++ reverse rest
inputs_first rest inputs = reverse-append rest (reverse inputs) ∙ ap (λ l. l ++ reverse rest) (reverse-reverse inputs)

-- trees side by side, where the arena has grown
pub children_grown : (items items' : List AExpr) → Grows items items' → (ns : List ℕ) (ts : Trees Op) → DenoteAll (HoldsExpression items) ns ts → DenoteAll (HoldsExpression items') ns ts
children_grown items items' g [] no_more d = tt
children_grown items items' g (n ∷ ns) (more t ts) d = (kept (HoldsExpression items) (HoldsExpression items') (grown_held items items' g) n t d.0, children_grown items items' g ns ts d.1)
children_grown items items' g [] (more t ts) d = absurd d
children_grown items items' g (n ∷ ns) no_more d = absurd d

-- ---- what is like

module _ (related : Expression → Expression → Type 0) (registry : Registry) (schema : Columns) (congruent : IsCongruent related registry schema) where
  mutual
    pub like_itself : (t : Expression) → IsLike related registry schema t t
    like_itself (node op ts) = record { same = on_frames registry schema (node op ts) (node op ts) (same_itself registry schema (node op ts)); relates = congruent op ts ts (all_like_itself ts) }

    all_like_itself : (ts : Trees Op) → AllRelated (IsLike related registry schema) ts ts
    all_like_itself no_more = tt
    all_like_itself (more t ts) = (like_itself t, all_like_itself ts)

  pub like_then : IsTransitive related → (t u w : Expression) → IsLike related registry schema t u → IsLike related registry schema u w → IsLike related registry schema t w
  like_then transitive t u w a b = record { same = frames_then registry schema t u w a.same b.same; relates = transitive t u w a.relates b.relates }

  pub node_like : (op : Op) (ts us : Trees Op) → AllRelated (IsLike related registry schema) ts us → IsLike related registry schema (node op ts) (node op us)
  node_like op ts us a = record { same = node_on_frames related registry schema op ts us a; relates = congruent op ts us a }

  -- every tree becomes one that is like it, where one node's does and no other item changes
  pub become : (items items' : List AExpr) (at : ℕ) (before : Expression) → Denotes (HoldsExpression items) at before → DenotesLike related registry schema items' at before → ((n : ℕ) (op : Op) (inputs : List ℕ) → n ≢ at → HoldsExpression items n op inputs → HoldsExpression items' n op inputs) → StaysLike related registry schema items items'
  become items items' at before d after elsewhere n u e =
      let r = replaced (shape_of (map expression_layer items)) (HoldsExpression items) (HoldsExpression items') (expression_laws items) at elsewhere before d (IsLike related registry schema) node_like after.tree after.denotes after.like n u e in
      record { tree = r.0; denotes = r.1; like = r.2 }

  -- or where the arena has only grown
  pub like_grown : (items items' : List AExpr) → Grows items items' → StaysLike related registry schema items items'
  like_grown items items' g n u e =
      record { tree = u; denotes = kept (HoldsExpression items) (HoldsExpression items') (grown_held items items' g) n u e; like = like_itself u }

  pub stays_then : IsTransitive related → (a b c : List AExpr) → StaysLike related registry schema a b → StaysLike related registry schema b c → StaysLike related registry schema a c
  stays_then transitive a b c first second n t d =
      let one = first n t d in
      let two = second n one.tree one.denotes in
      record { tree = two.tree; denotes = two.denotes; like = like_then transitive t one.tree two.tree one.like two.like }

-- ---- each node of a tree is settled, or leads to one that waits

abbrev mutual
  pub SettledBut : (Expression → Bool) → List AExpr → List ℕ → ℕ → Expression → Type 0
  SettledBut is_settled items tops n (node op ts) =
      (Among tops n × Denotes (HoldsExpression items) n (node op ts)) ⊎ ((inputs : List ℕ) × HoldsExpression items n op inputs × (is_settled (node op ts) ≡ true) × AllSettledBut is_settled items tops inputs ts)

  pub AllSettledBut : (Expression → Bool) → List AExpr → List ℕ → List ℕ → Trees Op → Type 0
  AllSettledBut is_settled items tops [] no_more = Unit {0}
  AllSettledBut is_settled items tops (n ∷ ns) (more t ts) = SettledBut is_settled items tops n t × AllSettledBut is_settled items tops ns ts
  AllSettledBut is_settled items tops [] (more t ts) = ⊥
  AllSettledBut is_settled items tops (n ∷ ns) no_more = ⊥

module _ (is_settled : Expression → Bool) (items : List AExpr) (tops : List ℕ) where
  mutual
    pub settled_denotes : (n : ℕ) (t : Expression) → SettledBut is_settled items tops n t → Denotes (HoldsExpression items) n t
    settled_denotes n (node op ts) s = ⊎_elim (λ w. w.1) (λ h. (h.0, h.1, all_settled_denotes h.0 ts h.3)) s

    all_settled_denotes : (ns : List ℕ) (ts : Trees Op) → AllSettledBut is_settled items tops ns ts → DenoteAll (HoldsExpression items) ns ts
    all_settled_denotes [] no_more s = tt
    all_settled_denotes (n ∷ ns) (more t ts) s = (settled_denotes n t s.0, all_settled_denotes ns ts s.1)
    all_settled_denotes [] (more t ts) s = absurd s
    all_settled_denotes (n ∷ ns) no_more s = absurd s

  pub waiting_settled : (n : ℕ) (t : Expression) → Among tops n → Denotes (HoldsExpression items) n t → SettledBut is_settled items tops n t
  waiting_settled n (node op ts) w d = inl (w, d)

  -- nodes that wait are settled but for what waits
  pub all_waiting : (ns : List ℕ) (ts : Trees Op) → ((n : ℕ) → Among ns n → Among tops n) → DenoteAll (HoldsExpression items) ns ts → AllSettledBut is_settled items tops ns ts
  all_waiting [] no_more w d = tt
  all_waiting (n ∷ ns) (more t ts) w d = (waiting_settled n t (w n (inl refl)) d.0, all_waiting ns ts (λ m v. w m (inr v)) d.1)
  all_waiting [] (more t ts) w d = absurd d
  all_waiting (n ∷ ns) no_more w d = absurd d

module _ (is_settled : Expression → Bool) (items : List AExpr) where
  -- where nothing waits, each node is settled
  mutual
    pub settled_all : (n : ℕ) (t : Expression) → SettledBut is_settled items [] n t → IsSettled is_settled t
    settled_all n (node op ts) s = ⊎_elim (λ w. absurd w.0) (λ h. (h.2, all_settled_all h.0 ts h.3)) s

    all_settled_all : (ns : List ℕ) (ts : Trees Op) → AllSettledBut is_settled items [] ns ts → AreSettled is_settled ts
    all_settled_all [] no_more s = tt
    all_settled_all (n ∷ ns) (more t ts) s = (settled_all n t s.0, all_settled_all ns ts s.1)
    all_settled_all [] (more t ts) s = absurd s
    all_settled_all (n ∷ ns) no_more s = absurd s

  pub all_ended : (ns : List ℕ) → AllByRecursion (λ n. (t : Expression) × SettledBut is_settled items [] n t) ns → AllByRecursion (DenotesSettled is_settled items) ns
  all_ended [] all = tt
  all_ended (n ∷ ns) all =
      (record { tree = all.0.0; denotes = settled_denotes is_settled items [] n all.0.0 all.0.1; each = settled_all n all.0.0 all.0.1 }, all_ended ns all.1)

-- what a turn at a node leaves of this
module _ (is_settled : Expression → Bool) (related : Expression → Expression → Type 0) (registry : Registry) (schema : Columns) (congruent : IsCongruent related registry schema) (steady : IsSteady is_settled related registry schema) (items items' : List AExpr) (at : ℕ) (tops tops' : List ℕ) (keeps : (n : ℕ) (op : Op) (inputs : List ℕ) → n ≢ at → HoldsExpression items n op inputs → HoldsExpression items' n op inputs) (becomes : StaysLike related registry schema items items') (waits : (n : ℕ) → n ≢ at → Among tops n → Among tops' n) (here : (u : Expression) → Denotes (HoldsExpression items) at u → (w : Expression) × SettledBut is_settled items' tops' at w × IsLike related registry schema u w) where
  mutual
    pub step : (n : ℕ) (u : Expression) → SettledBut is_settled items tops n u → (w : Expression) × SettledBut is_settled items' tops' n w × IsLike related registry schema u w
    step n (node op us) s = ⊎_elim
        (λ e.
        let d = subst (λ k. Denotes (HoldsExpression items) k (node op us)) e (settled_denotes is_settled items tops n (node op us) s) in
        subst (λ k. (w : Expression) × SettledBut is_settled items' tops' k w × IsLike related registry schema (node op us) w) (sym e) (here (node op us) d))
        (λ other. ⊎_elim
        (λ w.
        let r = becomes n (node op us) w.1 in
        (r.tree, waiting_settled is_settled items' tops' n r.tree (waits n other w.0) r.denotes, r.like))
        (λ h.
        let kids = step_all h.0 us h.3 in
        let still : is_settled (node op kids.0) ≡ true = steady op us kids.0 kids.2 ∙ h.2 in
        (node op kids.0, inr (h.0, keeps n op h.0 other h.1, still, kids.1), node_like related registry schema congruent op us kids.0 kids.2))
        s)
        (same_or_other n at)

    step_all : (ns : List ℕ) (us : Trees Op) → AllSettledBut is_settled items tops ns us → (ws : Trees Op) × AllSettledBut is_settled items' tops' ns ws × AllRelated (IsLike related registry schema) us ws
    step_all [] no_more s = (no_more, tt, tt)
    step_all (n ∷ ns) (more u us) s =
        let head = step n u s.0 in
        let tail = step_all ns us s.1 in
        (more head.0 tail.0, (head.1, tail.1), (head.2, tail.2))
    step_all [] (more u us) s = absurd s
    step_all (n ∷ ns) no_more s = absurd s

  roots_step : (roots : List ℕ) → AllByRecursion (λ n. (t : Expression) × SettledBut is_settled items tops n t) roots → AllByRecursion (λ n. (t : Expression) × SettledBut is_settled items' tops' n t) roots
  roots_step [] all = tt
  roots_step (n ∷ ns) all = let s = step n all.0.0 all.0.1 in ((s.0, s.1), roots_step ns all.1)

-- ---- what waits is typed

-- what is typed stays so
pub typed_become : (is_settled : Expression → Bool) (related : Expression → Expression → Type 0) (registry : Registry) (schema : Columns) (items items' : List AExpr) → StaysLike related registry schema items items' → (n : ℕ) → IsTypedRoot is_settled registry schema items n → IsTypedRoot is_settled registry schema items' n
typed_become is_settled related registry schema items items' becomes n t =
    let r = becomes n t.tree t.denotes in
    record { tree = r.tree; denotes = r.denotes; typed = t.typed; is = r.like.same.typing ∙ t.is; known = t.known }

-- inputs of a typed node that is settled
pub typed_inputs : (is_settled : Expression → Bool) (registry : Registry) (schema : Columns) (items : List AExpr) (ns : List ℕ) (ts : Trees Op) (typed : List Typed) → DenoteAll (HoldsExpression items) ns ts → typing_all registry schema ts ≡ Ok typed → (SettlesNoNumber is_settled registry schema → AllByRecursion (λ (t : Typed). is_known t.type ≡ true) typed) → AllByRecursion (IsTypedRoot is_settled registry schema items) ns
typed_inputs is_settled registry schema items [] no_more typed d e known = tt
typed_inputs is_settled registry schema items (n ∷ ns) (more t ts) typed d e known =
    by_children (λ xs. (SettlesNoNumber is_settled registry schema → AllByRecursion (λ (t : Typed). is_known t.type ≡ true) xs) → AllByRecursion (IsTypedRoot is_settled registry schema items) (n ∷ ns)) _ _ typed e (λ x xs is rest k.
    (record { tree = t; denotes = d.0; typed = x; is = is; known = λ all. (k all).0 }, typed_inputs is_settled registry schema items ns ts xs d.1 rest (λ all. (k all).1))) known
typed_inputs is_settled registry schema items [] (more t ts) typed d e known = absurd d
typed_inputs is_settled registry schema items (n ∷ ns) no_more typed d e known = absurd d

-- ---- what a turn does to trees

-- what is found adds nothing
pub found_grows : {is_settled : Expression → Bool} {old new : List AExpr} {at : ℕ} → IsFound is_settled old new at → Grows old new
found_grows {old = old} found = record { added = []; longer = found.same ∙ sym (append-nil old) }

module _ (is_settled : Expression → Bool) (measure : Expression → ℕ) (related : Expression → Expression → Type 0) (turns : Option ℕ) (registry : Registry) (schema : Columns) (items items' : List AExpr) (at : ℕ) where
  pub placed_elsewhere : IsPlaced is_settled measure related turns registry schema items items' at → (n : ℕ) (op : Op) (inputs : List ℕ) → n ≢ at → HoldsExpression items n op inputs → HoldsExpression items' n op inputs
  placed_elsewhere p n op inputs other h = subst (λ l. HoldsExpression l n op inputs) (sym p.is) (written_elsewhere items p.grown at p.item p.grows n op inputs other h)

  pub stopped_elsewhere : IsStopped is_settled measure related turns registry schema items items' at → (n : ℕ) (op : Op) (inputs : List ℕ) → n ≢ at → HoldsExpression items n op inputs → HoldsExpression items' n op inputs
  stopped_elsewhere s n op inputs other h = ⊎_elim (λ g. grown_held items items' g n op inputs h) (λ p. placed_elsewhere p n op inputs other h) s

  pub stopped_longer : IsStopped is_settled measure related turns registry schema items items' at → length items ≤ length items'
  stopped_longer s = ⊎_elim (λ g. length-grown items items' g) (λ p. omega (arith, length-grown items p.grown p.grows, ap length p.is, length-set p.grown at p.item)) s

  -- trees stay finite
  pub stopped_finite : DenotesTree (HoldsExpression items) at → IsStopped is_settled measure related turns registry schema items items' at → StaysFinite items items'
  stopped_finite here s n t = ⊎_elim
      (λ g. kept_tree (HoldsExpression items) (HoldsExpression items') (grown_held items items' g) n t)
      (λ p.
      let rep = p.answer here.tree here.denotes in
      let r = replaced (shape_of (map expression_layer items)) (HoldsExpression items) (HoldsExpression items') (expression_laws items) at (placed_elsewhere p) here.tree here.denotes (λ a b. Unit {0}) (λ op us vs all. tt) rep.tree rep.denotes tt n t.tree t.denotes in
      record { tree = r.0; denotes = r.1 })
      s

module _ (is_settled : Expression → Bool) (measure : Expression → ℕ) (related : Expression → Expression → Type 0) (turns : Option ℕ) (registry : Registry) (schema : Columns) (congruent : IsCongruent related registry schema) (items items' : List AExpr) (at : ℕ) where
  -- what is put in place of a typed node is like it
  pub placed_like : IsTypedRoot is_settled registry schema items at → IsPlaced is_settled measure related turns registry schema items items' at → (before : Expression) → Denotes (HoldsExpression items) at before → DenotesLike related registry schema items' at before
  placed_like root p before d =
      let one = denotes_one (shape_of (map expression_layer items)) (HoldsExpression items) (expression_laws items) at root.tree before root.denotes d in
      let rep = p.answer before d in
      let is = subst (λ t. typing registry schema t ≡ Ok root.typed) one root.is in
      let same : settled before ≡ before = elim (is_known root.typed.type) as (λ b. is_known root.typed.type ≡ b → settled before ≡ before) [ true ↦ λ e. known_settled registry schema before root.typed is e | false ↦ λ e. absurd (false≢true (sym e ∙ root.known (p.numbers before root.typed d is e))) ] refl in
      record { tree = rep.tree; denotes = rep.denotes; like = subst (λ t. IsLike related registry schema t rep.tree) same (rep.like root.typed is) }

  pub stopped_like : IsTypedRoot is_settled registry schema items at → IsStopped is_settled measure related turns registry schema items items' at → StaysLike related registry schema items items'
  stopped_like root s = ⊎_elim
      (λ g. like_grown related registry schema congruent items items' g)
      (λ p. become related registry schema congruent items items' at root.tree root.denotes (placed_like root p root.tree root.denotes) (placed_elsewhere is_settled measure related turns registry schema items items' at p))
      s

-- ---- the work so far

-- trees are like what they were, what waits is typed, and each root is settled but for what waits
pub record Pending (is_settled : Expression → Bool) (related : Expression → Expression → Type 0) (registry : Registry) (schema : Columns) (old new : List AExpr) (tops roots : List ℕ) : Type 0 where
  pub trees : StaysLike related registry schema old new
  pub waiting : AreTypedRoots is_settled registry schema new tops
  pub settled : AllByRecursion (λ n. (t : Expression) × SettledBut is_settled new tops n t) roots

start_settled : (is_settled : Expression → Bool) (registry : Registry) (schema : Columns) (items : List AExpr) (tops ns : List ℕ) → ((n : ℕ) → Among ns n → Among tops n) → AreTypedRoots is_settled registry schema items ns → AllByRecursion (λ n. (t : Expression) × SettledBut is_settled items tops n t) ns
start_settled is_settled registry schema items tops [] w all = tt
start_settled is_settled registry schema items tops (n ∷ ns) w all =
    ((all.0.tree, waiting_settled is_settled items tops n all.0.tree (w n (inl refl)) all.0.denotes), start_settled is_settled registry schema items tops ns (λ m v. w m (inr v)) all.1)

module _ (is_settled : Expression → Bool) (measure : Expression → ℕ) (related : Expression → Expression → Type 0) (turns : Option ℕ) (registry : Registry) (schema : Columns) (congruent : IsCongruent related registry schema) (transitive : IsTransitive related) (steady : IsSteady is_settled related registry schema) where
  pub pending_start : (items : List AExpr) (roots : List ℕ) → AreTypedRoots is_settled registry schema items roots → Pending is_settled related registry schema items items (reverse roots) roots
  pending_start items roots all = record {
    trees = λ n t d. record { tree = t; denotes = d; like = like_itself related registry schema congruent t };
    waiting = all_reversed (IsTypedRoot is_settled registry schema items) roots all;
    settled = start_settled is_settled registry schema items (reverse roots) roots (among_reversed roots) all;
  }

  module _ (old items items' : List AExpr) (at : ℕ) (rest roots : List ℕ) (p : Pending is_settled related registry schema old items (at ∷ rest) roots) where
    root : IsTypedRoot is_settled registry schema items at
    root = p.waiting.0

    one_there : (u : Expression) → Denotes (HoldsExpression items) at u → root.tree ≡ u
    one_there u e = denotes_one (shape_of (map expression_layer items)) (HoldsExpression items) (expression_laws items) at root.tree u root.denotes e

    pub pending_stops : IsStopped is_settled measure related turns registry schema items items' at → StaysLike related registry schema old items'
    pending_stops s = stays_then related registry schema congruent transitive old items items' p.trees (stopped_like is_settled measure related turns registry schema congruent items items' at root s)

    pub pending_places : IsPlaced is_settled measure related turns registry schema items items' at → Pending is_settled related registry schema old items' (at ∷ rest) roots
    pending_places placed =
        let becomes = stopped_like is_settled measure related turns registry schema congruent items items' at root (inr placed) in
        let keeps = stopped_elsewhere is_settled measure related turns registry schema items items' at (inr placed) in
        let here : (u : Expression) → Denotes (HoldsExpression items) at u → (w : Expression) × SettledBut is_settled items' (at ∷ rest) at w × IsLike related registry schema u w = λ u e.
        let now = placed_like is_settled measure related turns registry schema congruent items items' at root placed u e in
        (now.tree, waiting_settled is_settled items' (at ∷ rest) at now.tree (inl refl) now.denotes, now.like) in
        record {
          trees = pending_stops (inr placed);
          waiting = all_weaker (IsTypedRoot is_settled registry schema items) (IsTypedRoot is_settled registry schema items') (typed_become is_settled related registry schema items items' becomes) (at ∷ rest) p.waiting;
          settled = roots_step is_settled related registry schema congruent steady items items' at (at ∷ rest) (at ∷ rest) keeps becomes (λ n other w. w) here roots p.settled;
        }

    found_there : (tree : Expression) → Denotes (HoldsExpression items) at tree → typing registry schema tree ≡ Ok root.typed → IsFound is_settled items items' at → (inputs : List ℕ) × (op : Op) × HoldsExpression items' at op inputs × AreTypedRoots is_settled registry schema items' inputs × ((u : Expression) → Denotes (HoldsExpression items) at u → (w : Expression) × SettledBut is_settled items' (inputs ++ rest) at w × IsLike related registry schema u w)
    found_there (node op ts) d is found =
        let held = grown_held items items' (found_grows found) at op d.0 d.1 in
        let below = children_grown items items' (found_grows found) d.0 ts d.2 in
        let parts = typed_parts registry schema op ts root.typed is in
        let calm = found.is (node op ts) d in (
          d.0,
          op,
          held,
          typed_inputs is_settled registry schema items' d.0 ts parts.below below parts.children_typed (λ all. known_typings registry schema ts parts.below (all op ts calm) parts.children_typed),
          λ u e.
              let one = denotes_one (shape_of (map expression_layer items)) (HoldsExpression items) (expression_laws items) at (node op ts) u d e in
              subst (λ t. (w : Expression) × SettledBut is_settled items' (d.0 ++ rest) at w × IsLike related registry schema t w) one
              (node op ts, inr (d.0, held, calm, all_waiting is_settled items' (d.0 ++ rest) d.0 ts (among_front d.0 rest) below), like_itself related registry schema congruent (node op ts)),
        )

    pub pending_finds : (tops : List ℕ) → IsFound is_settled items items' at → ((op : Op) (inputs : List ℕ) → HoldsExpression items' at op inputs → tops ≡ inputs ++ rest) → Pending is_settled related registry schema old items' tops roots
    pending_finds tops found pushed =
        let becomes = like_grown related registry schema congruent items items' (found_grows found) in
        let h = found_there root.tree root.denotes root.is found in
        let is = pushed h.1 h.0 h.2 in
        let others = all_weaker (IsTypedRoot is_settled registry schema items) (IsTypedRoot is_settled registry schema items') (typed_become is_settled related registry schema items items' becomes) rest p.waiting.1 in
        let now : Pending is_settled related registry schema old items' (h.0 ++ rest) roots = record {
          trees = stays_then related registry schema congruent transitive old items items' p.trees becomes;
          waiting = all_joined (IsTypedRoot is_settled registry schema items') h.0 rest h.3 others;
          settled = roots_step is_settled related registry schema congruent steady items items' at (at ∷ rest) (h.0 ++ rest) (λ n op inputs other held. grown_held items items' (found_grows found) n op inputs held) becomes (λ n other w. ⊎_elim (λ e. absurd (other e)) (λ a. among_back h.0 rest n a) w) h.4 roots p.settled;
        } in
        subst (λ l. Pending is_settled related registry schema old items' l roots) (sym is) now

  pub pending_turn : (old items items' : List AExpr) (at : ℕ) (rest stack roots : List ℕ) (before steps : ℕ) → IsTurn is_settled measure related turns registry schema items items' at rest stack before steps → Pending is_settled related registry schema old items (reverse (rest ++ at ∷ [])) roots → Pending is_settled related registry schema old items' (reverse stack) roots
  pending_turn old items items' at rest stack roots before steps turn p =
      let q = subst (λ l. Pending is_settled related registry schema old items l roots) (top_first rest at) p in
      elim turn as (λ _. Pending is_settled related registry schema old items' (reverse stack) roots) [
        | places placed is counted ↦ subst (λ l. Pending is_settled related registry schema old items' l roots) (sym (ap reverse is ∙ top_first rest at)) (pending_places old items items' at (reverse rest) roots q placed)
        | finds found pushed counted ↦ pending_finds old items items' at (reverse rest) roots q (reverse stack) found (λ op inputs held. ap reverse (pushed op inputs held) ∙ inputs_first rest inputs)
      ]

-- ---- what waits denotes trees

pub turn_stopped : (is_settled : Expression → Bool) (measure : Expression → ℕ) (related : Expression → Expression → Type 0) (turns : Option ℕ) (registry : Registry) (schema : Columns) (items items' : List AExpr) (at : ℕ) (rest stack : List ℕ) (before steps : ℕ) → IsTurn is_settled measure related turns registry schema items items' at rest stack before steps → IsStopped is_settled measure related turns registry schema items items' at
turn_stopped is_settled measure related turns registry schema items items' at rest stack before steps turn =
    elim turn as (λ _. IsStopped is_settled measure related turns registry schema items items' at) [ places placed is counted ↦ inr placed | finds found pushed counted ↦ inl (found_grows found) ]

-- ---- what a rule answers

pub on_ok : {T E P Q : Type 0} (r : Result T E) → OnOk r Q → (Q → P) → OnOk r P
on_ok (Ok x) q f = f q
on_ok (Err e) q f = tt

-- what holds anyhow holds of a refusal
pub on_refusal : {T E P : Type 0} (r : Result T E) → P → OnErr r P
on_refusal (Ok x) p = tt
on_refusal (Err e) p = p

pub memory_alone : (answer : Result Typed ErrorKind) (typed : Typed) (error : PlanError) → answer ≡ Ok typed → IsRefusal answer error → error ≡ no_memory
memory_alone answer typed error is refused = elim refused as (λ _. error ≡ no_memory) [ no_room e ↦ e | broken kind e of ↦ cc ]

pub no_memory_left : (is_settled : Expression → Bool) (turns : Option ℕ) (registry : Registry) (schema : Columns) (old new : List AExpr) (roots : List ℕ) → IsCoercionRefusal is_settled turns registry schema old new roots no_memory
no_memory_left is_settled turns registry schema old new roots = record { cause = inl refl; typed = λ all. refl; numbers = λ n e none all. refl }

pub found_now : (is_settled : Expression → Bool) (measure : Expression → ℕ) (related : Expression → Expression → Type 0) (registry : Registry) (schema : Columns) (old grown : List AExpr) (at : ℕ) (answer : Option AExpr) → answer ≡ None → (answer ≡ None → grown ≡ old) → ((t : Expression) → Denotes (HoldsExpression old) at t → MatchOption answer (is_settled t ≡ true) (λ item. IsReplacement related measure registry schema old (set grown at item) at t)) → IsFound is_settled old grown at
found_now is_settled measure related registry schema old grown at None is g said_so = record { same = g is; is = said_so }
found_now is_settled measure related registry schema old grown at (Some item) is g said_so = cc

pub some_said : {T : Type 0} (P : Type 0) (Q : T → Type 0) (answer : Option T) (x : T) → answer ≡ Some x → MatchOption answer P Q → Q x
some_said P Q None x is h = cc
some_said P Q (Some y) x is h = let same : y ≡ x = cc in subst Q same h

module _ (is_settled : Expression → Bool) (measure : Expression → ℕ) (related : Expression → Expression → Type 0) (turns : Option ℕ) (registry : Registry) (schema : Columns) (old grown : List AExpr) (at : ℕ) where
  pub placed_now : (new : List AExpr) (item : AExpr) (answer : Option AExpr) → answer ≡ Some item → Grows old grown → new ≡ set grown at item → ((t : Expression) → Denotes (HoldsExpression old) at t → MatchOption answer (is_settled t ≡ true) (λ item. IsReplacement related measure registry schema old (set grown at item) at t)) → ((t : Expression) (typed : Typed) → answer ≢ None → Denotes (HoldsExpression old) at t → typing registry schema t ≡ Ok typed → is_known typed.type ≡ false → SettlesNoNumber is_settled registry schema) → MatchOption answer Unit (λ item. (n : ℕ) → turns ≡ Some n → IsClosed old (at ∷ []) (set grown at item)) → MatchOption answer Unit (λ item. (n : ℕ) → turns ≡ Some n → StaysOnce old (set grown at item) at) → IsPlaced is_settled measure related turns registry schema old new at
  placed_now new item None is g put answered numbers reaches once = cc
  placed_now new item (Some one) is g put answered numbers reaches once =
      let same : one ≡ item = cc in
      let now : new ≡ set grown at one = put ∙ ap (set grown at) (sym same) in
      record {
        grown = grown;
        grows = g;
        item = one;
        is = now;
        answer = λ t d. subst (λ l. IsReplacement related measure registry schema old l at t) (sym now) (answered t d);
        numbers = λ t typed d. numbers t typed (λ none. cc) d;
        reaches = λ n e. subst (IsClosed old (at ∷ [])) (sym now) (reaches n e);
        once = λ n e. subst (λ l. StaysOnce old l at) (sym now) (once n e);
      }

-- ---- numbers that a table keeps

pub not_kept_number : (table : TypeTable) (n : ℕ) → (IsKept table n → ⊥) → IsTrue false ↔ KeepsNumber table n
not_kept_number table n none = (λ f. absurd (false≢true f), λ k. absurd (none (record { own = k.own; keeps = k.keeps })))

pub kept_number : (table : TypeTable) (n : ℕ) (own : Inferred) (number : Option ℤ) (b : Bool) → KeepsEntry table n own → b ≡ is_some number → MatchOption number ((k : ℤ) → ty own.dtype ≢ Untyped k) (λ k. ty own.dtype ≡ Untyped k) → IsTrue b ↔ KeepsNumber table n
kept_number table n own None b keeps e h =
    (λ t. absurd (false≢true (sym e ∙ t)), λ k. absurd (h k.number (ap (λ (o : Inferred). ty o.dtype) (keeps_one table n own k.own keeps k.keeps) ∙ k.is)))
kept_number table n own (Some k) b keeps e h = (λ t. record { own = own; number = k; keeps = keeps; is = h }, λ k. e)

-- ---- what is kept after a turn

-- one that places an item
pub placed_keeps : (forgets : List AExpr → TypeTable → ℕ → Type 0) (is_settled : Expression → Bool) (registry : Registry) (schema : Columns) (old grown : List AExpr) (table between table' : TypeTable) (at : ℕ) (answer : Option AExpr) (item : AExpr) → answer ≡ Some item → Grows old grown → IsRight registry schema grown between → ExtendsUnless ((answer ≢ None) × forgets old table at) table between → ((t : Expression) (typed : Typed) → answer ≢ None → Denotes (HoldsExpression old) at t → typing registry schema t ≡ Ok typed → is_known typed.type ≡ false → SettlesNoNumber is_settled registry schema) → DenotesTree (HoldsExpression old) at → (table' ≡ between) ⊎ (KeepsNumber between at × KeepsNone table') → TurnKeeps forgets is_settled registry schema old at table table'
placed_keeps forgets is_settled registry schema old grown table between table' at answer item is g right extended numbers tree put never =
    let some : answer ≢ None = λ none. let differs : Some item ≡ None = sym is ∙ none in cc in
    let extends = ⊎_elim (λ e. e) (λ f. absurd (never old table at f.0.1)) extended in
    ⊎_elim
    (λ same. inl (subst (Extends table) (sym same) extends))
    (λ cleared.
    let k = cleared.0 in
    let says : (t : Expression) → Denotes (HoldsExpression old) at t → typing registry schema t ≡ Ok (typed_of k.own) = λ t d. kept_typing registry schema grown between right at k.own k.keeps t (kept (HoldsExpression old) (HoldsExpression grown) (grown_held old grown g) at t d) in
    let unknown : is_known (typed_of k.own).type ≡ false = ap is_known k.is in
    inr (record {
      settles = numbers tree.tree (typed_of k.own) some tree.denotes (says tree.tree tree.denotes) unknown;
      unknown = λ t typed d h. ap (λ (x : Typed). is_known x.type) (ok_same (typing registry schema t) typed (typed_of k.own) h (says t d)) ∙ unknown;
    }))
    put

-- at a typed root none of a number without a type is replaced
pub typed_keeps : (forgets : List AExpr → TypeTable → ℕ → Type 0) (is_settled : Expression → Bool) (registry : Registry) (schema : Columns) (items : List AExpr) (table table' : TypeTable) (at : ℕ) → NeverForgets forgets → IsTypedRoot is_settled registry schema items at → TurnKeeps forgets is_settled registry schema items at table table' → Extends table table'
typed_keeps forgets is_settled registry schema items table table' at never root turn =
    ⊎_elim (λ extends. extends) (λ n. absurd (false≢true (sym (n.unknown root.tree root.typed root.denotes root.is) ∙ root.known n.settles))) (turn never)
