-- Nodes of trees, and that none is reached twice.
use Rattle.std.proofs.Common.{◌≡◌, ◌⊎◌, ℕ, suc, ◌+◌, ◌<◌, ◌≤◌, List, [], ◌∷◌, ◌++◌, length, map, set, Some, slice_get, take, refl, sym, ap, ◌∙◌, subst, arith, inl, inr, ⊎_elim}
use Rattle.std.proofs.lemmas.List.{append-nil, append_assoc}
use Rattle.std.proofs.Math.Seq.{take-length}
use Rattle.plan_arena.proofs.NumberLemmas.{taken_more}
use Rattle.plan_arena.proofs.DenotationLemmas.{some_same}
use Rattle.plan_dsl.specs.Ops.{Op, Expression}
use Rattle.plan_dsl.specs.Trees.{Trees, node, no_more, more}
use Rattle.plan_arena.specs.declared.aexpr.AExpr.{AExpr}
use Rattle.plan_arena.specs.Layers.{layer, inputs_of, op_of}
use Rattle.plan_arena.specs.Items.{Grows, HoldsExpression, expression_layer}
use Rattle.plan_arena.proofs.ItemLemmas.{expression_added, expression_elsewhere, grown_held, layer_parts, length-grown}
use Rattle.plan_coerce.specs.Reaching.{Among, AreMadeOnce, AreOnce, HasNewNodes, HasNodes, HaveNodes, IsMadeOnce, IsPutOnce, StaysOnce}
use Rattle.plan_coerce.proofs.RightLemmas.{node_within}

-- ---- lists

pub among_front : (ms ns : List ℕ) (n : ℕ) → Among ms n → Among (ms ++ ns) n
among_front [] ns n a = absurd a
among_front (m ∷ ms) ns n a = ⊎_elim (λ e. inl e) (λ b. inr (among_front ms ns n b)) a

pub among_back : (ms ns : List ℕ) (n : ℕ) → Among ns n → Among (ms ++ ns) n
among_back [] ns n a = a
among_back (m ∷ ms) ns n a = inr (among_back ms ns n a)

pub among_split : (ms ns : List ℕ) (n : ℕ) → Among (ms ++ ns) n → Among ms n ⊎ Among ns n
among_split [] ns n a = inr a
among_split (m ∷ ms) ns n a = ⊎_elim (λ e. inl (inl e)) (λ b. ⊎_elim (λ c. inl (inr c)) (λ c. inr c) (among_split ms ns n b)) a

pub once_front : (ms ns : List ℕ) → AreOnce (ms ++ ns) → AreOnce ms
once_front [] ns h = tt
once_front (m ∷ ms) ns h = (λ a. h.0 (among_front ms ns m a), once_front ms ns h.1)

pub once_back : (ms ns : List ℕ) → AreOnce (ms ++ ns) → AreOnce ns
once_back [] ns h = h
once_back (m ∷ ms) ns h = once_back ms ns h.1

pub once_apart : (ms ns : List ℕ) (n : ℕ) → AreOnce (ms ++ ns) → Among ms n → Among ns n → ⊥
once_apart [] ns n h a b = absurd a
once_apart (m ∷ ms) ns n h a b = ⊎_elim (λ e. h.0 (among_back ms ns m (subst (Among ns) e b))) (λ c. once_apart ms ns n h.1 c b) a

pub once_joined : (ms ns : List ℕ) → AreOnce ms → AreOnce ns → ((n : ℕ) → Among ms n → Among ns n → ⊥) → AreOnce (ms ++ ns)
once_joined [] ns a b apart = b
once_joined (m ∷ ms) ns a b apart =
    (λ c. ⊎_elim (λ d. a.0 d) (λ d. apart m (inl refl) d) (among_split ms ns m c), once_joined ms ns a.1 b (λ n d e. apart n (inr d) e))

-- ---- nodes of trees

-- What is said of a tree's nodes, and of those of trees side by side, from what is said below.
pub record SaidOfNodes (items : List AExpr) (One : ℕ → Expression → List ℕ → Type 0) (All : List ℕ → Trees Op → List ℕ → Type 0) : Type 0 where
  pub top : (n : ℕ) (op : Op) (inputs : List ℕ) (ts : Trees Op) (below : List ℕ) → HoldsExpression items n op inputs → All inputs ts below → One n (node op ts) (n ∷ below)
  pub none : All [] no_more []
  pub next : (n : ℕ) (t : Expression) (ns : List ℕ) (ts : Trees Op) (front back : List ℕ) → One n t front → All ns ts back → All (n ∷ ns) (more t ts) (front ++ back)

module _ (items : List AExpr) (One : ℕ → Expression → List ℕ → Type 0) (All : List ℕ → Trees Op → List ℕ → Type 0) (said : SaidOfNodes items One All) where
  mutual
    pub of_nodes : (n : ℕ) (t : Expression) (ns : List ℕ) → HasNodes items n t ns → One n t ns
    of_nodes n (node op ts) ns h = subst (One n (node op ts)) (sym h.3) (said.top n op h.0 ts h.1 h.2 (of_all_nodes h.0 ts h.1 h.4))

    pub of_all_nodes : (is : List ℕ) (ts : Trees Op) (ns : List ℕ) → HaveNodes items is ts ns → All is ts ns
    of_all_nodes [] no_more ns h = subst (All [] no_more) (sym h) said.none
    of_all_nodes (n ∷ is) (more t ts) ns h = subst (All (n ∷ is) (more t ts)) (sym h.2) (said.next n t is ts h.0 h.1 (of_nodes n t h.0 h.3) (of_all_nodes is ts h.1 h.4))
    of_all_nodes [] (more t ts) ns h = absurd h
    of_all_nodes (n ∷ is) no_more ns h = absurd h

module _ (old new : List AExpr) (keeps : (n : ℕ) (op : Op) (inputs : List ℕ) → HoldsExpression old n op inputs → HoldsExpression new n op inputs) where
  said_kept : SaidOfNodes old (HasNodes new) (HaveNodes new)
  said_kept = record {
    top = λ n op inputs ts below held all. (inputs, below, keeps n op inputs held, refl, all);
    none = refl;
    next = λ n t ns ts front back one all. (front, back, refl, one, all);
  }

  pub nodes_kept : (n : ℕ) (t : Expression) (ns : List ℕ) → HasNodes old n t ns → HasNodes new n t ns
  nodes_kept = of_nodes old (HasNodes new) (HaveNodes new) said_kept

  pub all_nodes_kept : (is : List ℕ) (ts : Trees Op) (ns : List ℕ) → HaveNodes old is ts ns → HaveNodes new is ts ns
  all_nodes_kept = of_all_nodes old (HasNodes new) (HaveNodes new) said_kept

-- all of them are in the arena
module _ (items : List AExpr) where
  abbrev AllWithin : List ℕ → Type 0
  AllWithin ns = (m : ℕ) → Among ns m → m < length items

  said_within : SaidOfNodes items (λ n t ns. AllWithin ns) (λ is ts ns. AllWithin ns)
  said_within = record {
    top = λ n op inputs ts below held all m a. ⊎_elim (λ e. subst (λ k. k < length items) (sym e) (node_within items n op inputs held)) (λ b. all m b) a;
    none = λ m a. absurd a;
    next = λ n t ns ts front back one all m a. ⊎_elim (λ b. one m b) (λ b. all m b) (among_split front back m a);
  }

  pub nodes_within : (n : ℕ) (t : Expression) (ns : List ℕ) → HasNodes items n t ns → (m : ℕ) → Among ns m → m < length items
  nodes_within = of_nodes items (λ n t ns. AllWithin ns) (λ is ts ns. AllWithin ns) said_within

  pub all_nodes_within : (is : List ℕ) (ts : Trees Op) (ns : List ℕ) → HaveNodes items is ts ns → (m : ℕ) → Among ns m → m < length items
  all_nodes_within = of_all_nodes items (λ n t ns. AllWithin ns) (λ is ts ns. AllWithin ns) said_within

-- trees that don't have the node stay where its item is written
module _ (old : List AExpr) (at : ℕ) (item : AExpr) where
  abbrev One : ℕ → Expression → List ℕ → Type 0
  One n t ns = (Among ns at → ⊥) → HasNodes (set old at item) n t ns

  abbrev All : List ℕ → Trees Op → List ℕ → Type 0
  All is ts ns = (Among ns at → ⊥) → HaveNodes (set old at item) is ts ns

  said_unwritten : SaidOfNodes old One All
  said_unwritten = record {
    top = λ n op inputs ts below held all apart. (inputs, below, expression_elsewhere old at item n op inputs (λ e. apart (inl (sym e))) held, refl, all (λ a. apart (inr a)));
    none = λ apart. refl;
    next = λ n t ns ts front back one all apart. (front, back, refl, one (λ a. apart (among_front front back at a)), all (λ a. apart (among_back front back at a)));
  }

  pub nodes_unwritten : (n : ℕ) (t : Expression) (ns : List ℕ) → HasNodes old n t ns → (Among ns at → ⊥) → HasNodes (set old at item) n t ns
  nodes_unwritten = of_nodes old One All said_unwritten

  pub all_nodes_unwritten : (is : List ℕ) (ts : Trees Op) (ns : List ℕ) → HaveNodes old is ts ns → (Among ns at → ⊥) → HaveNodes (set old at item) is ts ns
  all_nodes_unwritten = of_all_nodes old One All said_unwritten

-- ---- nodes that are added

-- over one
pub put_once : (old new : List AExpr) (item : AExpr) (op : Op) (input made : ℕ) → new ≡ old ++ item ∷ [] → made ≡ length old → expression_layer item ≡ layer op (input ∷ []) → IsPutOnce old new input made
put_once old new item op input made grown at is =
    let held : HoldsExpression new made op (input ∷ []) = subst (λ l. slice_get (map expression_layer l) made ≡ Some (layer op (input ∷ []))) (sym grown) (subst (λ k. slice_get (map expression_layer (old ++ item ∷ [])) k ≡ Some (layer op (input ∷ []))) (sym at) (expression_added old item ∙ ap Some is)) in
    let g : Grows old new = record { added = item ∷ []; longer = grown } in
    (omega (arith, at), λ t ns h. (node op (more t no_more), (input ∷ [], ns, held, refl, (ns, [], sym (append-nil ns), nodes_kept old new (λ n o ins. grown_held old new g n o ins) input t ns h, refl))))

-- over none
pub new_once : (old new : List AExpr) (item : AExpr) (op : Op) (made : ℕ) → new ≡ old ++ item ∷ [] → made ≡ length old → expression_layer item ≡ layer op [] → HasNewNodes old new made
new_once old new item op made grown at is =
    let held : HoldsExpression new made op [] = subst (λ l. slice_get (map expression_layer l) made ≡ Some (layer op [])) (sym grown) (subst (λ k. slice_get (map expression_layer (old ++ item ∷ [])) k ≡ Some (layer op [])) (sym at) (expression_added old item ∙ ap Some is)) in
    (node op no_more, made ∷ [], ([], [], held, refl, refl), (λ a. a, tt), λ m a. ⊎_elim (λ e. omega (arith, at, e)) (λ b. absurd b) a)

-- one over new ones
pub put_over_new : (old mid new : List AExpr) (under made : ℕ) → length old ≤ length mid → HasNewNodes old mid under → IsPutOnce mid new under made → HasNewNodes old new made
put_over_new old mid new under made le below put =
    let over = put.1 below.0 below.1 below.2 in
    (over.0, made ∷ below.1, over.1, (λ a. omega (arith, put.0, nodes_within mid under below.0 below.1 below.2 made a), below.3), λ m a. ⊎_elim (λ e. omega (arith, put.0, e, le)) (λ b. below.4 m b) a)

-- ---- operands

pub itself_once : (old : List AExpr) (n : ℕ) → IsMadeOnce old old n n
itself_once old n t ns h once = (t, ns, h, once, λ m a. inl a)

pub cast_once : (old new : List AExpr) (n made : ℕ) → IsPutOnce old new n made → IsMadeOnce old new n made
cast_once old new n made put t ns h once =
    let over = put.1 t ns h in
    (over.0, made ∷ ns, over.1, (λ a. omega (arith, put.0, nodes_within old n t ns h made a), once), λ m a. ⊎_elim (λ e. inr (omega (arith, put.0, e))) (λ b. inl b) a)

pub number_once : (old new : List AExpr) (n made : ℕ) → HasNewNodes old new made → IsMadeOnce old new n made
number_once old new n made is t ns h once = (is.0, is.1, is.2, is.3, λ m a. inr (is.4 m a))

pub none_once : (old : List AExpr) → AreMadeOnce old old [] []
none_once old no_more ns h once = (no_more, ns, h, once, λ m a. inl a)
none_once old (more t ts) ns h once = absurd h

-- what stands in front and behind
split_nodes : (items : List AExpr) (is : List ℕ) (n : ℕ) (ts : Trees Op) (ns : List ℕ) → HaveNodes items (is ++ n ∷ []) ts ns → (us : Trees Op) × (t : Expression) × (front : List ℕ) × (back : List ℕ) × (ns ≡ front ++ back) × HaveNodes items is us front × HasNodes items n t back
split_nodes items [] n (more t no_more) ns h = (no_more, t, [], h.0, h.2 ∙ ap (λ l. h.0 ++ l) h.4 ∙ append-nil h.0, refl, h.3)
split_nodes items [] n no_more ns h = absurd h
split_nodes items [] n (more t (more u us)) ns h = absurd h.4
split_nodes items (i ∷ is) n (more t ts) ns h =
    let s = split_nodes items is n ts h.1 h.4 in
    (more t s.0, s.1, h.0 ++ s.2, s.3, h.2 ∙ ap (λ l. h.0 ++ l) s.4 ∙ sym (append_assoc h.0 s.2 s.3), (h.0, s.2, refl, h.3, s.5), s.6)
split_nodes items (i ∷ is) n no_more ns h = absurd h

join_nodes : (items : List AExpr) (is : List ℕ) (n : ℕ) (ts : Trees Op) (t : Expression) (front back : List ℕ) → HaveNodes items is ts front → HasNodes items n t back → (us : Trees Op) × HaveNodes items (is ++ n ∷ []) us (front ++ back)
join_nodes items [] n no_more t front back h k = (more t no_more, (back, [], ap (λ l. l ++ back) h ∙ sym (append-nil back), k, refl))
join_nodes items [] n (more u us) t front back h k = absurd h
join_nodes items (i ∷ is) n (more u us) t front back h k =
    let r = join_nodes items is n us t h.1 back h.4 k in
    (more u r.0, (h.0, h.1 ++ back, ap (λ l. l ++ back) h.2 ∙ append_assoc h.0 h.1 back, h.3, r.1))
join_nodes items (i ∷ is) n no_more t front back h k = absurd h

-- one more operand
pub more_once : (old mid new : List AExpr) (inputs made : List ℕ) (input one : ℕ) → Grows old mid → Grows mid new → AreMadeOnce old mid inputs made → IsMadeOnce mid new input one → AreMadeOnce old new (inputs ++ input ∷ []) (made ++ one ∷ [])
more_once old mid new inputs made input one g h before now ts ns has once =
    let s = split_nodes old inputs input ts ns has in
    let parted = subst AreOnce s.4 once in
    let first = before s.0 s.2 s.5 (once_front s.2 s.3 parted) in
    let there = nodes_kept old mid (λ n o ins. grown_held old mid g n o ins) input s.1 s.3 s.6 in
    let last = now s.1 s.3 there (once_back s.2 s.3 parted) in
    let kept = all_nodes_kept mid new (λ n o ins. grown_held mid new h n o ins) made first.0 first.1 first.2 in
    let both = join_nodes new made one first.0 last.0 first.1 last.1 kept last.2 in
    let le = length-grown old mid g in
    let apart : (n : ℕ) → Among first.1 n → Among last.1 n → ⊥ = λ n a b. ⊎_elim
    (λ back. ⊎_elim (λ front. once_apart s.2 s.3 n parted front back) (λ fresh. omega (arith, fresh, nodes_within old input s.1 s.3 s.6 n back)) (first.4 n a))
    (λ fresh. omega (arith, fresh, all_nodes_within mid made first.0 first.1 first.2 n a))
    (last.4 n b) in (
      both.0,
      first.1 ++ last.1,
      both.1,
      once_joined first.1 last.1 first.3 last.3 apart,
      λ m a. subst (λ l. Among l m ⊎ (length old ≤ m)) (sym s.4) (⊎_elim
          (λ b. ⊎_elim (λ c. inl (among_front s.2 s.3 m c)) (λ c. inr c) (first.4 m b))
          (λ b. ⊎_elim (λ c. inl (among_back s.2 s.3 m c)) (λ c. inr (omega (arith, c, le))) (last.4 m b))
          (among_split first.1 last.1 m a)),
    )

-- ---- what is put in place

-- an item over operands that were made
pub over_once : (old new : List AExpr) (at : ℕ) (before item : AExpr) (made : List ℕ) → at < length old → at < length new → slice_get (map expression_layer old) at ≡ Some (expression_layer before) → inputs_of (expression_layer item) ≡ made → slice_get (map expression_layer (set new at item)) at ≡ Some (expression_layer item) → AreMadeOnce old new (inputs_of (expression_layer before)) made → StaysOnce old (set new at item) at
over_once old new at before item made lt lt' got is put once (node op ts) ns has distinct =
    let ins : has.0 ≡ inputs_of (expression_layer before) = ap inputs_of (some_same (slice_get (map expression_layer old) at) (layer op has.0) (expression_layer before) has.2 got) in
    let below = subst (λ l. HaveNodes old l ts has.1) ins has.4 in
    let parted = subst AreOnce has.3 distinct in
    let m = once ts has.1 below parted.1 in
    let apart : Among m.1 at → ⊥ = λ a. ⊎_elim (λ b. parted.0 b) (λ le. omega (arith, le, lt)) (m.4 at a) in
    let kept = all_nodes_unwritten new at item made m.0 m.1 m.2 apart in
    let held : HoldsExpression (set new at item) at (op_of (expression_layer item)) made = put ∙ ap Some (layer_parts (expression_layer item) ∙ ap (layer (op_of (expression_layer item))) is) in
    (node (op_of (expression_layer item)) m.0, at ∷ m.1, (made, m.1, held, refl, kept), (apart, m.3))

-- an item over new nodes alone, or over none
pub bare_once : (old new : List AExpr) (at : ℕ) (item : AExpr) (op : Op) → slice_get (map expression_layer (set new at item)) at ≡ Some (layer op []) → StaysOnce old (set new at item) at
bare_once old new at item op put t ns has distinct = (node op no_more, at ∷ [], ([], [], put, refl, refl), (λ a. a, tt))

pub above_once : (old new : List AExpr) (at made : ℕ) (item : AExpr) (op : Op) → at < length old → slice_get (map expression_layer (set new at item)) at ≡ Some (layer op (made ∷ [])) → HasNewNodes old new made → StaysOnce old (set new at item) at
above_once old new at made item op lt put is t ns has distinct =
    let apart : Among is.1 at → ⊥ = λ a. omega (arith, lt, is.4 at a) in
    let kept = nodes_unwritten new at item made is.0 is.1 is.2 apart in
    (node op (more is.0 no_more), at ∷ is.1, (made ∷ [], is.1, put, refl, (is.1, [], sym (append-nil is.1), kept, refl)), (apart, is.3))

-- ---- operands one by one

pub taken_next : (ns : List ℕ) (i n : ℕ) → slice_get ns i ≡ Some n → take (i + 1) ns ≡ take i ns ++ n ∷ []
taken_next ns i n got = let next : i + 1 ≡ suc i = omega arith in ap (λ k. take k ns) next ∙ taken_more ns i n got

pub taken_whole : (ns : List ℕ) (i : ℕ) → i ≡ length ns → take i ns ≡ ns
taken_whole ns i e = ap (λ k. take k ns) e ∙ take-length ns
