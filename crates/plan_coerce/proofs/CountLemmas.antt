-- Steps of coercion are counted: each node is visited once, and again as often as it is replaced.
use Rattle.std.proofs.Common.{◌≡◌, ◌⊎◌, ℕ, zero, suc, ◌+◌, ◌*◌, ◌<◌, ◌≤◌, Bool, true, false, eqb, ◌||◌, List, [], ◌∷◌, ◌++◌, length, map, set, reverse, Option, Some, refl, sym, ap, ◌∙◌, subst, arith, inl, inr, ⊎_elim}
use Rattle.std.specs.List.{AllByRecursion, IsDistinct, list_any}
use Rattle.std.proofs.lemmas.Bool.{eqb-true}
use Rattle.std.proofs.lemmas.Grind.{reverse_onto}
use Rattle.std.proofs.lemmas.List.{append-nil, append_assoc, length-append}
use Rattle.std.proofs.lemmas.Map.Steps.{length-le_from_distinct_below}
use Rattle.std.proofs.Math.ListN.{length-set}
use Rattle.std.proofs.Math.Nat.{mul-add, mul-le-mul_left}
use Rattle.plan_types.specs.Schemas.{Columns}
use Rattle.plan_dsl.specs.Registry.{Registry}
use Rattle.plan_dsl.specs.Trees.{Trees, node, no_more, more}
use Rattle.plan_dsl.specs.Ops.{Op, Expression}
use Rattle.plan_arena.specs.declared.aexpr.AExpr.{AExpr}
use Rattle.plan_arena.specs.Denotation.{Denotes, DenoteAll}
use Rattle.plan_arena.specs.Layers.{shape_of}
use Rattle.plan_arena.specs.Items.{HoldsExpression, expression_layer}
use Rattle.plan_arena.proofs.DenotationLemmas.{denotes_one, some_same}
use Rattle.plan_arena.proofs.ItemLemmas.{expression_laws, grown_held, layer_inputs, length-grown}
use Rattle.plan_coerce.specs.Optimizer.{AreApart}
use Rattle.plan_coerce.specs.Reaching.{Among, AreOnce, HasNodes, HaveNodes, IsReached, ReachedBy}
use Rattle.plan_coerce.specs.Turns.{IsFound, IsPlaced, IsTurn, finds, places}
use Rattle.plan_coerce.proofs.OnceLemmas.{SaidOfNodes, among_back, among_front, among_split, nodes_kept, nodes_unwritten, nodes_within, of_nodes, once_apart, once_back, once_front, once_joined}
use Rattle.plan_coerce.proofs.ReachLemmas.{reached_near, root_near}
use Rattle.plan_coerce.proofs.TurnLemmas.{found_grows, inputs_first, top_first}

-- ---- nodes of a tree

-- a tree's nodes are those that its top reaches
module _ (items : List AExpr) where
  -- nodes that are closed under going to an input
  among_nodes : (tops : List ℕ) (ns : List ℕ) → ((m : ℕ) → Among tops m → Among ns m) → ((m : ℕ) (op : Op) (inputs : List ℕ) (n : ℕ) → Among ns m → HoldsExpression items m op inputs → Among inputs n → Among ns n) → (steps n : ℕ) → ReachedBy items tops steps n → Among ns n
  among_nodes tops ns first next zero n path = first n path
  among_nodes tops ns first next (suc steps) n path = next path.0 path.1 path.2 n (among_nodes tops ns first next steps path.0 path.3) path.4 path.5

  abbrev Closed : List ℕ → Type 0
  Closed ns = (m : ℕ) (op : Op) (inputs : List ℕ) (n : ℕ) → Among ns m → HoldsExpression items m op inputs → Among inputs n → Among ns n

  said_closed : SaidOfNodes items (λ r t ns. Closed ns × Among ns r) (λ rs ts ns. Closed ns × ((n : ℕ) → Among rs n → Among ns n))
  said_closed = record {
    top = λ r o is ts below held all. (
      λ m op inputs n a here b. inr (⊎_elim
          (λ e. let same = layer_inputs o op is inputs (some_same _ _ _ held (subst (λ k. HoldsExpression items k op inputs) e here)) in all.1 n (subst (λ l. Among l n) (sym same) b))
          (λ c. all.0 m op inputs n c here b)
          a),
      inl refl,
    );
    none = (λ m op inputs n a held b. absurd a, λ n a. a);
    next = λ r t rs ts front back one all. (
      λ m op inputs n a held b. ⊎_elim (λ c. among_front front back n (one.0 m op inputs n c held b)) (λ c. among_back front back n (all.0 m op inputs n c held b)) (among_split front back m a),
      λ n a. ⊎_elim (λ e. among_front front back n (subst (Among front) (sym e) one.1)) (λ b. among_back front back n (all.1 n b)) a,
    );
  }

  nodes_closed : (r : ℕ) (t : Expression) (ns : List ℕ) → HasNodes items r t ns → Closed ns × Among ns r
  nodes_closed = of_nodes items (λ r t ns. Closed ns × Among ns r) (λ rs ts ns. Closed ns × ((n : ℕ) → Among rs n → Among ns n)) said_closed

  root_among : (r : ℕ) (t : Expression) (ns : List ℕ) → HasNodes items r t ns → Among ns r
  root_among r t ns h = (nodes_closed r t ns h).1

  reached_among : (r : ℕ) (t : Expression) (ns : List ℕ) → HasNodes items r t ns → (n : ℕ) → IsReached items (r ∷ []) n → Among ns n
  reached_among r t ns h n reached =
      among_nodes (r ∷ []) ns (λ m a. ⊎_elim (λ e. subst (Among ns) (sym e) (root_among r t ns h)) (λ b. absurd b) a) (nodes_closed r t ns h).0 reached.steps n reached.path

  -- and each of them is reached
  pub under : (r m : ℕ) (op : Op) (inputs : List ℕ) → HoldsExpression items r op inputs → Among inputs m → (steps n : ℕ) → ReachedBy items (m ∷ []) steps n → ReachedBy items (r ∷ []) (suc steps) n
  under r m op inputs held a zero n path = (r, op, inputs, inl refl, held, ⊎_elim (λ e. subst (Among inputs) (sym e) a) (λ b. absurd b) path)
  under r m op inputs held a (suc steps) n path = (path.0, path.1, path.2, under r m op inputs held a steps path.0 path.3, path.4, path.5)

  abbrev Reached : List ℕ → List ℕ → Type 0
  Reached rs ns = (n : ℕ) → Among ns n → (m : ℕ) × IsReached items (m ∷ []) n × Among rs m

  said_reached : SaidOfNodes items (λ r t ns. (n : ℕ) → Among ns n → IsReached items (r ∷ []) n) (λ rs ts ns. Reached rs ns)
  said_reached = record {
    top = λ r o is ts below held all n a. ⊎_elim (λ e. record { steps = zero; path = inl e }) (λ b. let m = all n b in record { steps = suc m.1.steps; path = under r m.0 o is held m.2 m.1.steps n m.1.path }) a;
    none = λ n a. absurd a;
    next = λ r t rs ts front back one all n a. ⊎_elim (λ b. (r, one n b, inl refl)) (λ b. let m = all n b in (m.0, m.1, inr m.2)) (among_split front back n a);
  }

  among_reached : (r : ℕ) (t : Expression) (ns : List ℕ) → HasNodes items r t ns → (n : ℕ) → Among ns n → IsReached items (r ∷ []) n
  among_reached = of_nodes items (λ r t ns. (n : ℕ) → Among ns n → IsReached items (r ∷ []) n) (λ rs ts ns. Reached rs ns) said_reached

  -- a node that has a tree's nodes denotes it
  nodes_denote : (n : ℕ) (t : Expression) (ns : List ℕ) → HasNodes items n t ns → Denotes (HoldsExpression items) n t
  nodes_denote = of_nodes items (λ n t ns. Denotes (HoldsExpression items) n t) (λ rs ts ns. DenoteAll (HoldsExpression items) rs ts) (record {
    top = λ n op inputs ts below held all. (inputs, held, all);
    none = tt;
    next = λ n t ns ts front back one all. (one, all);
  })

-- ---- what is owed

-- Each node that waits has been replaced so often, and may be as often again as its measure says; together they come to
-- the number, and these are the nodes of their trees.
abbrev pub Owing : (Expression → ℕ) → ℕ → List AExpr → List ℕ → List ℕ → ℕ → Type 0
Owing measure limit items [] ns owed = (ns ≡ []) × (owed ≡ 0)
Owing measure limit items (n ∷ rest) ns owed =
    (t : Expression) × (front : List ℕ) × (back : List ℕ) × (k : ℕ) × (others : ℕ) × (ns ≡ front ++ back) × (owed ≡ k + others) × HasNodes items n t front × (k + measure t ≤ limit) × Owing measure limit items rest back others

module _ (measure : Expression → ℕ) (limit : ℕ) where
  owing_joined : (items : List AExpr) (ms ns xs ys : List ℕ) (a b : ℕ) → Owing measure limit items ms xs a → Owing measure limit items ns ys b → Owing measure limit items (ms ++ ns) (xs ++ ys) (a + b)
  owing_joined items [] ns xs ys a b h k =
      let sum : b ≡ a + b = omega (arith, h.1) in
      subst (λ l. Owing measure limit items ns (l ++ ys) (a + b)) (sym h.0) (subst (Owing measure limit items ns ys) sum k)
  owing_joined items (m ∷ ms) ns xs ys a b h k =
      let rest = owing_joined items ms ns h.2 ys h.4 b h.9 k in
      (h.0, h.1, h.2 ++ ys, h.3, h.4 + b, ap (λ l. l ++ ys) h.5 ∙ append_assoc h.1 h.2 ys, omega (arith, h.6), h.7, h.8, rest)

  -- nodes that are kept
  owing_kept : (items items' : List AExpr) → ((n : ℕ) (op : Op) (inputs : List ℕ) → HoldsExpression items n op inputs → HoldsExpression items' n op inputs) → (ns xs : List ℕ) (owed : ℕ) → Owing measure limit items ns xs owed → Owing measure limit items' ns xs owed
  owing_kept items items' keeps [] xs owed h = h
  owing_kept items items' keeps (n ∷ ns) xs owed h =
      (h.0, h.1, h.2, h.3, h.4, h.5, h.6, nodes_kept items items' keeps n h.0 h.1 h.7, h.8, owing_kept items items' keeps ns h.2 h.4 h.9)

  owing_unwritten : (items : List AExpr) (at : ℕ) (item : AExpr) (ns xs : List ℕ) (owed : ℕ) → Owing measure limit items ns xs owed → (Among xs at → ⊥) → Owing measure limit (set items at item) ns xs owed
  owing_unwritten items at item [] xs owed h apart = h
  owing_unwritten items at item (n ∷ ns) xs owed h apart =
      let front : Among h.1 at → ⊥ = λ a. apart (subst (λ l. Among l at) (sym h.5) (among_front h.1 h.2 at a)) in
      let back : Among h.2 at → ⊥ = λ a. apart (subst (λ l. Among l at) (sym h.5) (among_back h.1 h.2 at a)) in
      (h.0, h.1, h.2, h.3, h.4, h.5, h.6, nodes_unwritten items at item n h.0 h.1 h.7 front, h.8, owing_unwritten items at item ns h.2 h.4 h.9 back)

  owing_within : (items : List AExpr) (ns xs : List ℕ) (owed : ℕ) → Owing measure limit items ns xs owed → (m : ℕ) → Among xs m → m < length items
  owing_within items [] xs owed h m a = absurd (subst (λ l. Among l m) h.0 a)
  owing_within items (n ∷ ns) xs owed h m a =
      ⊎_elim (λ b. nodes_within items n h.0 h.1 h.7 m b) (λ b. owing_within items ns h.2 h.4 h.9 m b) (among_split h.1 h.2 m (subst (λ l. Among l m) h.5 a))

  -- new work owes nothing yet
  module _ (bounded : (t : Expression) → measure t ≤ limit) where
    owing_new : (items : List AExpr) (ns : List ℕ) (ts : Trees Op) (xs : List ℕ) → HaveNodes items ns ts xs → Owing measure limit items ns xs 0
    owing_new items [] no_more xs h = (h, refl)
    owing_new items (n ∷ ns) (more t ts) xs h = (t, h.0, h.1, 0, 0, h.2, refl, h.3, omega (arith, bounded t), owing_new items ns ts h.1 h.4)
    owing_new items [] (more t ts) xs h = absurd h
    owing_new items (n ∷ ns) no_more xs h = absurd h

  some_nodes : (items : List AExpr) (n : ℕ) (t : Expression) (ns : List ℕ) → HasNodes items n t ns → 1 ≤ length ns
  some_nodes items n (node op ts) ns h = omega (arith, ap length h.3)

  -- what is owed is little beside the nodes
  owed_bound : (cost : ℕ) → cost ≡ 2 * limit + 2 → (items : List AExpr) (ns xs : List ℕ) (owed : ℕ) → Owing measure limit items ns xs owed → 2 * owed ≤ cost * length xs
  owed_bound cost is items [] xs owed h = omega (arith, h.1)
  owed_bound cost is items (n ∷ ns) xs owed h =
      let rest = owed_bound cost is items ns h.2 h.4 h.9 in
      let some = some_nodes items n h.0 h.1 h.7 in
      let front : cost * 1 ≤ cost * length h.1 = mul-le-mul_left cost some in
      let whole : cost * length xs ≡ cost * length h.1 + cost * length h.2 = ap (λ l. cost * length l) h.5 ∙ ap (λ k. cost * k) (length-append h.1 h.2) ∙ mul-add cost (length h.1) (length h.2) in
      omega (arith, rest, front, whole, h.6, h.8, is)

-- ---- the count so far

once_moved : (vs : List ℕ) (x : ℕ) (ys : List ℕ) → AreOnce (vs ++ x ∷ ys) → AreOnce (x ∷ vs ++ ys)
once_moved [] x ys h = h
once_moved (v ∷ vs) x ys h =
    let rest = once_moved vs x ys h.1 in (
      λ a. ⊎_elim (λ e. h.0 (among_back vs (x ∷ ys) v (inl (sym e)))) (λ b. rest.0 b) a,
      (λ a. h.0 (⊎_elim (λ b. among_front vs (x ∷ ys) v b) (λ b. among_back vs (x ∷ ys) v (inr b)) (among_split vs ys v a)), rest.1),
    )

any_among : (ns : List ℕ) (q : ℕ) → list_any (eqb q) ns ≡ true → Among ns q
any_among [] q h = cc
any_among (n ∷ ns) q h = elim (eqb q n) as (λ b. eqb q n ≡ b → (b || list_any (eqb q) ns) ≡ true → Among (n ∷ ns) q) [ true ↦ λ e f. inl (eqb-true q n e) | false ↦ λ e f. inr (any_among ns q f) ] refl h

none_equal : (n : ℕ) (ns : List ℕ) → (Among ns n → ⊥) → AllByRecursion (λ m. eqb n m ≡ false) ns
none_equal n [] apart = tt
none_equal n (m ∷ ms) apart =
    (elim (eqb n m) as (λ b. eqb n m ≡ b → eqb n m ≡ false) [ true ↦ λ e. absurd (apart (inl (eqb-true n m e))) | false ↦ λ e. e ] refl, none_equal n ms (λ a. apart (inr a)))

once_distinct : (ns : List ℕ) → AreOnce ns → IsDistinct eqb ns
unfolding IsDistinct
once_distinct [] h = tt
once_distinct (n ∷ ns) h = (none_equal n ns h.0, once_distinct ns h.1)

-- no more numbers than there are below the bound
once_bounded : (ns : List ℕ) (bound : ℕ) → AreOnce ns → ((m : ℕ) → Among ns m → m < bound) → length ns ≤ bound
once_bounded ns bound once below = length-le_from_distinct_below ns bound (once_distinct ns once) (λ q h. below q (any_among ns q h))

-- the steps so far: the nodes that were visited and those of the trees that wait are in the arena, none twice
pub record Counted (measure : Expression → ℕ) (limit cost : ℕ) (items : List AExpr) (tops : List ℕ) (start steps : ℕ) : Type 0 where
  pub visited : List ℕ
  pub ns : List ℕ
  pub owed : ℕ
  pub owing : Owing measure limit items tops ns owed
  pub once : AreOnce (visited ++ ns)
  pub within : (m : ℕ) → Among visited m → m < length items
  pub bound : steps ≤ start + cost * length visited + 2 * owed

module _ (measure : Expression → ℕ) (limit cost : ℕ) (cost_is : cost ≡ 2 * limit + 2) where
  owing_turned : (items : List AExpr) (ns xs : List ℕ) (owed : ℕ) → Owing measure limit items ns xs owed → AreOnce xs → (ys : List ℕ) × Owing measure limit items (reverse ns) ys owed × AreOnce ys × ((m : ℕ) → Among ys m → Among xs m)
  owing_turned items [] xs owed h once = (xs, h, once, λ m a. a)
  owing_turned items (n ∷ ns) xs owed h once =
      let parted = subst AreOnce h.5 once in
      let r = owing_turned items ns h.2 h.4 h.9 (once_back h.1 h.2 parted) in
      let one : Owing measure limit items (n ∷ []) h.1 h.3 = (h.0, h.1, [], h.3, 0, sym (append-nil h.1), omega arith, h.7, h.8, (refl, refl)) in
      let both = owing_joined measure limit items (reverse ns) (n ∷ []) r.0 h.1 h.4 h.3 r.1 one in
      let sum : h.4 + h.3 ≡ owed = omega (arith, h.6) in (
        r.0 ++ h.1,
        subst (λ l. Owing measure limit items l (r.0 ++ h.1) owed) (sym (reverse_onto ns n [])) (subst (Owing measure limit items (reverse ns ++ n ∷ []) (r.0 ++ h.1)) sum both),
        once_joined r.0 h.1 r.2 (once_front h.1 h.2 parted) (λ m a b. once_apart h.1 h.2 m parted b (r.3 m a)),
        λ m a. subst (λ l. Among l m) (sym h.5) (⊎_elim (λ b. among_back h.1 h.2 m (r.3 m b)) (λ b. among_front h.1 h.2 m b) (among_split r.0 h.1 m a)),
      )

  pub counted_start : ((t : Expression) → measure t ≤ limit) → (items : List AExpr) (roots : List ℕ) (start : ℕ) → AreApart items roots → Counted measure limit cost items (reverse roots) start start
  counted_start bounded items roots start apart =
      let r = owing_turned items roots apart.nodes 0 (owing_new measure limit bounded items roots apart.trees apart.nodes apart.have) apart.once in
      record { visited = []; ns = r.0; owed = 0; owing = r.1; once = r.2; within = λ m a. absurd a; bound = omega arith }

  -- the end, and a refusal
  all_counted : (items : List AExpr) (tops : List ℕ) (start steps : ℕ) (c : Counted measure limit cost items tops start steps) → cost * length c.visited + cost * length c.ns ≤ cost * length items
  all_counted items tops start steps c =
      let count = once_bounded (c.visited ++ c.ns) (length items) c.once (λ m a. ⊎_elim (λ b. c.within m b) (λ b. owing_within measure limit items tops c.ns c.owed c.owing m b) (among_split c.visited c.ns m a)) in
      let both = mul-le-mul_left cost count in
      let whole : cost * length (c.visited ++ c.ns) ≡ cost * length c.visited + cost * length c.ns = ap (λ k. cost * k) (length-append c.visited c.ns) ∙ mul-add cost (length c.visited) (length c.ns) in
      omega (arith, both, whole)

  pub counted_end : (items : List AExpr) (tops : List ℕ) (start steps : ℕ) → Counted measure limit cost items tops start steps → steps ≤ start + cost * length items
  counted_end items tops start steps c =
      let owed = owed_bound measure limit cost cost_is items tops c.ns c.owed c.owing in
      let all = all_counted items tops start steps c in
      omega (arith, c.bound, owed, all)

  pub counted_stops : (items items' : List AExpr) (at : ℕ) (rest : List ℕ) (start steps now : ℕ) → Counted measure limit cost items (at ∷ rest) start steps → length items ≤ length items' → now ≤ steps + 2 → now ≤ start + cost * length items'
  counted_stops items items' at rest start steps now c longer few =
      let h = c.owing in
      let others = owed_bound measure limit cost cost_is items rest h.2 h.4 h.9 in
      let some = some_nodes measure limit items at h.0 h.1 h.7 in
      let front : cost * 1 ≤ cost * length h.1 = mul-le-mul_left cost some in
      let whole : cost * length c.ns ≡ cost * length h.1 + cost * length h.2 = ap (λ l. cost * length l) h.5 ∙ ap (λ k. cost * k) (length-append h.1 h.2) ∙ mul-add cost (length h.1) (length h.2) in
      let all = all_counted items (at ∷ rest) start steps c in
      let grown : cost * length items ≤ cost * length items' = mul-le-mul_left cost longer in
      omega (arith, c.bound, few, others, front, whole, all, grown, h.6, h.8, cost_is)

  module _ (is_settled : Expression → Bool) (related : Expression → Expression → Type 0) (turns : Option ℕ) (is : turns ≡ Some limit) (registry : Registry) (schema : Columns) (bounded : (t : Expression) → measure t ≤ limit) (items items' : List AExpr) (at : ℕ) (rest : List ℕ) (start steps : ℕ) (c : Counted measure limit cost items (at ∷ rest) start steps) where
    counted_places : IsPlaced is_settled measure related turns registry schema items items' at → Counted measure limit cost items' (at ∷ rest) start (steps + 2)
    counted_places p =
        let h = c.owing in
        let vs = c.visited in
        let all = subst (λ l. AreOnce (vs ++ l)) h.5 c.once in
        let waiting = once_back vs (h.1 ++ h.2) all in
        let u = p.once limit is h.0 h.1 h.7 (once_front h.1 h.2 waiting) in
        let rep = p.answer h.0 (nodes_denote items at h.0 h.1 h.7) in
        let one = denotes_one (shape_of (map expression_layer items')) (HoldsExpression items') (expression_laws items') at rep.tree u.0 rep.denotes (nodes_denote items' at u.0 u.1 u.2) in
        let falls = subst (λ t. measure t < measure h.0) one rep.falls in
        let near : (m : ℕ) → Among u.1 m → Among h.1 m ⊎ (length items ≤ m) = λ m a. ⊎_elim
        (λ le. inr le)
        (λ r. inl (reached_among items at h.0 h.1 h.7 m r))
        (reached_near items (at ∷ []) items' (at ∷ []) m (p.reaches limit is) (root_near items at, tt) (among_reached items' at u.0 u.1 u.2 m a)) in
        let longer : length items ≤ length items' = omega (arith, length-grown items p.grown p.grows, ap length p.is, length-set p.grown at p.item) in
        let apart : Among h.2 at → ⊥ = λ a. once_apart h.1 h.2 at waiting (root_among items at h.0 h.1 h.7) a in
        let kept = owing_kept measure limit items p.grown (grown_held items p.grown p.grows) rest h.2 h.4 h.9 in
        let others = subst (λ l. Owing measure limit l rest h.2 h.4) (sym p.is) (owing_unwritten measure limit p.grown at p.item rest h.2 h.4 kept apart) in
        let lower : (m : ℕ) → Among h.2 m → m < length items = λ m b. owing_within measure limit items rest h.2 h.4 h.9 m b in
        let ends : AreOnce (u.1 ++ h.2) = once_joined u.1 h.2 u.3 (once_back h.1 h.2 waiting) (λ m a b. ⊎_elim (λ f. once_apart h.1 h.2 m waiting f b) (λ le. omega (arith, le, lower m b)) (near m a)) in
        record {
          visited = vs;
          ns = u.1 ++ h.2;
          owed = (h.3 + 1) + h.4;
          owing = (u.0, u.1, h.2, h.3 + 1, h.4, refl, refl, u.2, omega (arith, h.8, falls), others);
          once = once_joined vs (u.1 ++ h.2) (once_front vs (h.1 ++ h.2) all) ends (λ m a b. ⊎_elim
              (λ x. ⊎_elim (λ f. once_apart vs (h.1 ++ h.2) m all a (among_front h.1 h.2 m f)) (λ le. omega (arith, le, c.within m a)) (near m x))
              (λ x. once_apart vs (h.1 ++ h.2) m all a (among_back h.1 h.2 m x))
              (among_split u.1 h.2 m b));
          within = λ m a. omega (arith, c.within m a, longer);
          bound = omega (arith, c.bound, h.6);
        }

    counted_found : (t : Expression) (front back : List ℕ) (k others : ℕ) → c.ns ≡ front ++ back → c.owed ≡ k + others → HasNodes items at t front → k + measure t ≤ limit → Owing measure limit items rest back others → IsFound is_settled items items' at → (inputs : List ℕ) × (op : Op) × HoldsExpression items' at op inputs × Counted measure limit cost items' (inputs ++ rest) start (steps + 1)
    counted_found (node op ts) front back k others ns_is owed_is has most owing found =
        let keeps = grown_held items items' (found_grows found) in
        let vs = c.visited in
        let here = nodes_kept items items' keeps at (node op ts) front has in
        let longer = length-grown items items' (found_grows found) in
        let all : AreOnce (vs ++ at ∷ (here.1 ++ back)) = subst (λ l. AreOnce (vs ++ l)) (ns_is ∙ ap (λ l. l ++ back) here.3) c.once in
        let paid : cost * (1 + length vs) ≡ cost * 1 + cost * length vs = mul-add cost 1 (length vs) in (
          here.0,
          op,
          here.2,
          record {
            visited = at ∷ vs;
            ns = here.1 ++ back;
            owed = others;
            owing = let none : 0 + others ≡ others = omega arith in subst (Owing measure limit items' (here.0 ++ rest) (here.1 ++ back)) none (owing_joined measure limit items' here.0 rest here.1 back 0 others (owing_new measure limit bounded items' here.0 ts here.1 here.4) (owing_kept measure limit items items' keeps rest back others owing));
            once = once_moved vs at (here.1 ++ back) all;
            within = λ m a. ⊎_elim (λ e. omega (arith, e, nodes_within items at (node op ts) front has at (root_among items at (node op ts) front has), longer)) (λ b. omega (arith, c.within m b, longer)) a;
            bound = omega (arith, c.bound, owed_is, most, paid, cost_is);
          },
        )

    counted_finds : (tops : List ℕ) → IsFound is_settled items items' at → ((op : Op) (inputs : List ℕ) → HoldsExpression items' at op inputs → tops ≡ inputs ++ rest) → Counted measure limit cost items' tops start (steps + 1)
    counted_finds tops found pushed =
        let h = c.owing in
        let r = counted_found h.0 h.1 h.2 h.3 h.4 h.5 h.6 h.7 h.8 h.9 found in
        subst (λ l. Counted measure limit cost items' l start (steps + 1)) (sym (pushed r.1 r.0 r.2)) r.3

  pub counted_turn : (is_settled : Expression → Bool) (related : Expression → Expression → Type 0) (turns : Option ℕ) → turns ≡ Some limit → (registry : Registry) (schema : Columns) → ((t : Expression) → measure t ≤ limit) → (items items' : List AExpr) (at : ℕ) (rest stack : List ℕ) (start before steps : ℕ) → IsTurn is_settled measure related turns registry schema items items' at rest stack before steps → Counted measure limit cost items (reverse (rest ++ at ∷ [])) start before → Counted measure limit cost items' (reverse stack) start steps
  counted_turn is_settled related turns is registry schema bounded items items' at rest stack start before steps turn c =
      let q = subst (λ l. Counted measure limit cost items l start before) (top_first rest at) c in
      elim turn as (λ _. Counted measure limit cost items' (reverse stack) start steps) [
        | places placed over counted ↦
            let now = counted_places is_settled related turns is registry schema bounded items items' at (reverse rest) start before q placed in
            subst (λ l. Counted measure limit cost items' l start steps) (sym (ap reverse over ∙ top_first rest at)) (subst (Counted measure limit cost items' (at ∷ reverse rest) start) (sym counted) now)
        | finds found pushed counted ↦
            let now = counted_finds is_settled related turns is registry schema bounded items items' at (reverse rest) start before q (reverse stack) found (λ op inputs held. ap reverse (pushed op inputs held) ∙ inputs_first rest inputs) in
            subst (Counted measure limit cost items' (reverse stack) start) (sym counted) now
      ]
