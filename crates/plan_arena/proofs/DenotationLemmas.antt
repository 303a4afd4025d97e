-- Laws of denotation, for any arena whose items are known by their inputs.
use Rattle.std.proofs.Common.{◌≡◌, ◌≢◌, ◌⊎◌, ℕ, zero, suc, ◌+◌, ◌<◌, ◌≤◌, max, List, [], ◌∷◌, length, true, false, eqb, Option, Some, slice_get, unwrap_or, refl, sym, ap, ◌∙◌, ◌||◌, subst, arith, ⊎_elim, inl, inr}
use Rattle.std.specs.List.{IsDistinct, AllByRecursion, list_any}
use Rattle.std.proofs.lemmas.Bool.{eqb-true, eqb-false, cases_lt}
use Rattle.std.proofs.lemmas.Map.Steps.{length-le_from_distinct_below}
use Rattle.plan_dsl.specs.Trees.{Tree, Trees, node, no_more, more, tree_depth, trees_depth, AllRelated}
use Rattle.plan_arena.specs.Denotation.{Denotes, DenoteAll, DenotesTree, greatest, depth_within, depth_at}

-- what an arena holds: the inputs that its shape has, and one op at each node
pub record HasShape {Op : Type 0} (shape : List (List ℕ)) (holds : ℕ → Op → List ℕ → Type 0) : Type 0 where
  pub there : (n : ℕ) (op : Op) (inputs : List ℕ) → holds n op inputs → slice_get shape n ≡ Some inputs
  pub below : (n : ℕ) (op : Op) (inputs : List ℕ) → holds n op inputs → n < length shape
  pub one : (n : ℕ) (op op' : Op) (inputs inputs' : List ℕ) → holds n op inputs → holds n op' inputs' → op ≡ op'

all_weaker : {P Q : ℕ → Type 0} → ((m : ℕ) → P m → Q m) → (ms : List ℕ) → AllByRecursion P ms → AllByRecursion Q ms
all_weaker h [] all = tt
all_weaker h (m ∷ ms) all = (h m all.0, all_weaker h ms all.1)

-- a number among numbers that have a fact has it
has_each : (P : ℕ → Type 0) (ms : List ℕ) (q : ℕ) → AllByRecursion P ms → list_any (eqb q) ms ≡ true → P q
has_each P [] q all found = cc
has_each P (m ∷ ms) q all found =
    elim (eqb q m) as (λ b. eqb q m ≡ b → (b || list_any (eqb q) ms) ≡ true → P q) [ true ↦ λ e f. subst P (sym (eqb-true q m e)) all.0 | false ↦ λ e f. has_each P ms q all.1 f ] refl found

pub same_or_other : (m n : ℕ) → (m ≡ n) ⊎ (m ≢ n)
same_or_other m n =
    elim (eqb m n) as (λ b. eqb m n ≡ b → (m ≡ n) ⊎ (m ≢ n)) [ true ↦ λ e. inl (eqb-true m n e) | false ↦ λ e. inr (eqb-false m n e) ] refl

pub some_same : {A : Type 0} (o : Option A) (x y : A) → o ≡ Some x → o ≡ Some y → x ≡ y
some_same o x y p q = cc

-- nodes that denote trees side by side denote one each
pub all_denote : {Op : Type 0} (holds : ℕ → Op → List ℕ → Type 0) (ns : List ℕ) (ts : Trees Op) → DenoteAll holds ns ts → AllByRecursion (DenotesTree holds) ns
all_denote holds [] ts d = tt
all_denote holds (n ∷ ns) (more t ts) d = (record { tree = t; denotes = d.0 }, all_denote holds ns ts d.1)
all_denote holds (n ∷ ns) no_more d = absurd d

module _ {Op : Type 0} (shape : List (List ℕ)) (holds : ℕ → Op → List ℕ → Type 0) (laws : HasShape shape holds) where
  same_inputs : (n : ℕ) (op op' : Op) (inputs inputs' : List ℕ) → holds n op inputs → holds n op' inputs' → inputs ≡ inputs'
  same_inputs n op op' inputs inputs' h h' = some_same (slice_get shape n) inputs inputs' (laws.there n op inputs h) (laws.there n op' inputs' h')

  -- a node denotes one tree
  mutual
    pub denotes_one : (n : ℕ) (t u : Tree Op) → Denotes holds n t → Denotes holds n u → t ≡ u
    denotes_one n (node op ts) (node op' us) d e =
        let same_ops = laws.one n op op' d.0 e.0 d.1 e.1 in
        let inputs = same_inputs n op op' d.0 e.0 d.1 e.1 in
        let d' = subst (λ ns. DenoteAll holds ns ts) inputs d.2 in
        let children = denote_one e.0 ts us d' e.2 in
        cc

    denote_one : (ns : List ℕ) (ts us : Trees Op) → DenoteAll holds ns ts → DenoteAll holds ns us → ts ≡ us
    denote_one [] no_more no_more d e = refl
    denote_one (n ∷ ns) (more t ts) (more u us) d e =
        let head = denotes_one n t u d.0 e.0 in
        let tail = denote_one ns ts us d.1 e.1 in
        cc
    denote_one [] (more t ts) us d e = absurd d
    denote_one [] no_more (more u us) d e = absurd e
    denote_one (n ∷ ns) no_more us d e = absurd d
    denote_one (n ∷ ns) (more t ts) no_more d e = absurd e

  -- a number that denotes a tree no deeper than that
  DenotesWithin : ℕ → ℕ → Type 0
  DenotesWithin depth m = (u : Tree Op) × Denotes holds m u × (tree_depth u ≤ depth)

  node_below : (n : ℕ) (t : Tree Op) → Denotes holds n t → n < length shape
  node_below n (node op ts) d = laws.below n op d.0 d.1

  -- distinct nodes, as many as a tree is deep, none of which denotes a deeper one
  record Way (depth : ℕ) : Type 0 where
    nodes : List ℕ
    long : length nodes ≡ depth
    distinct : IsDistinct eqb nodes
    each : AllByRecursion (DenotesWithin depth) nodes

  too_deep : (n : ℕ) (t : Tree Op) (depth : ℕ) → Denotes holds n t → depth < tree_depth t → (m : ℕ) → DenotesWithin depth m → n ≡ m → ⊥
  unfolding DenotesWithin
  too_deep n t depth d deeper m w e =
      let same = ap tree_depth (denotes_one n t w.0 d (subst (λ k. Denotes holds k w.0) (sym e) w.1)) in
      omega (arith, w.2)

  apart : (n : ℕ) (t : Tree Op) (depth : ℕ) → Denotes holds n t → depth < tree_depth t → (m : ℕ) → DenotesWithin depth m → eqb n m ≡ false
  unfolding DenotesWithin
  apart n t depth d deeper m w = elim (eqb n m) as (λ b. eqb n m ≡ b → b ≡ false) [ true ↦ λ e. absurd (too_deep n t depth d deeper m w (eqb-true n m e)) | false ↦ λ e. refl ] refl

  deeper_way : (a b : ℕ) → a ≡ b → Way a → Way b
  deeper_way a b e w = subst (λ k. Way k) e w

  mutual
    unfolding DenotesWithin IsDistinct

    way : (n : ℕ) (t : Tree Op) → Denotes holds n t → Way (tree_depth t)
    way n (node op ts) d =
        let w = way_all d.0 ts d.2 in
        let here : trees_depth ts < tree_depth (node op ts) = omega arith in
        record {
          nodes = n ∷ w.nodes;
          long = omega (arith, w.long);
          distinct = (all_weaker (apart n (node op ts) (trees_depth ts) d here) w.nodes w.each, w.distinct);
          each = ((node op ts, d, omega arith), all_weaker (λ m v. (v.0, v.1, omega (arith, v.2))) w.nodes w.each);
        }

    way_all : (ns : List ℕ) (ts : Trees Op) → DenoteAll holds ns ts → Way (trees_depth ts)
    way_all [] no_more d = record { nodes = []; long = refl; distinct = tt; each = tt }
    way_all (n ∷ ns) (more t ts) d =
        ⊎_elim
        (λ lt. let e : trees_depth ts ≡ max (tree_depth t) (trees_depth ts) = omega arith in deeper_way _ _ e (way_all ns ts d.1))
        (λ le. let e : tree_depth t ≡ max (tree_depth t) (trees_depth ts) = omega arith in deeper_way _ _ e (way n t d.0))
        (cases_lt (tree_depth t) (trees_depth ts))
    way_all [] (more t ts) d = absurd d
    way_all (n ∷ ns) no_more d = absurd d

  -- a denoted tree is no deeper than the arena is long
  pub depth_bound : (n : ℕ) (t : Tree Op) → Denotes holds n t → tree_depth t ≤ length shape
  unfolding DenotesWithin
  depth_bound n t d =
      let w = way n t d in
      let each = all_weaker {P = DenotesWithin (tree_depth t)} {Q = λ m. m < length shape} (λ m v. node_below m v.0 v.1) w.nodes w.each in
      let short = length-le_from_distinct_below w.nodes (length shape) w.distinct (λ q found. has_each (λ m. m < length shape) w.nodes q each found) in
      omega (arith, w.long)

  mutual
    unfolding depth_within

    depth_within-denotes : (bound n : ℕ) (t : Tree Op) → Denotes holds n t → tree_depth t ≤ bound → depth_within bound shape n ≡ tree_depth t
    depth_within-denotes zero n (node op ts) d le = absurd (omega arith)
    depth_within-denotes (suc bound) n (node op ts) d le =
        let inputs = ap (λ o. unwrap_or o []) (laws.there n op d.0 d.1) in
        ap (λ ns. 1 + greatest (depth_within bound shape) ns) inputs ∙ ap (λ k. 1 + k) (greatest-denotes bound d.0 ts d.2 (omega arith))

    greatest-denotes : (bound : ℕ) (ns : List ℕ) (ts : Trees Op) → DenoteAll holds ns ts → trees_depth ts ≤ bound → greatest (depth_within bound shape) ns ≡ trees_depth ts
    greatest-denotes bound [] no_more d le = refl
    greatest-denotes bound (n ∷ ns) (more t ts) d le =
        ap (λ k. max k (greatest (depth_within bound shape) ns)) (depth_within-denotes bound n t d.0 (omega arith))
        ∙ ap (max (tree_depth t)) (greatest-denotes bound ns ts d.1 (omega arith))
    greatest-denotes bound [] (more t ts) d le = absurd d
    greatest-denotes bound (n ∷ ns) no_more d le = absurd d

  -- the depth that the shape tells is the tree's
  pub depth_at-denotes : (n : ℕ) (t : Tree Op) → Denotes holds n t → depth_at shape n ≡ tree_depth t
  unfolding depth_at
  depth_at-denotes n t d = depth_within-denotes (length shape) n t d (depth_bound n t d)

  greatest_depth : (ns : List ℕ) (ts : Trees Op) → DenoteAll holds ns ts → greatest (depth_at shape) ns ≡ trees_depth ts
  greatest_depth [] no_more d = refl
  greatest_depth (n ∷ ns) (more t ts) d =
      ap (λ k. max k (greatest (depth_at shape) ns)) (depth_at-denotes n t d.0) ∙ ap (max (tree_depth t)) (greatest_depth ns ts d.1)
  greatest_depth [] (more t ts) d = absurd d
  greatest_depth (n ∷ ns) no_more d = absurd d

  depth_of_tree : (n : ℕ) (op : Op) (inputs : List ℕ) → holds n op inputs → (t : Tree Op) → Denotes holds n t → depth_at shape n ≡ 1 + greatest (depth_at shape) inputs
  depth_of_tree n op inputs h (node op' ts) d =
      let same = same_inputs n op' op d.0 inputs d.1 h in
      let below = greatest_depth inputs ts (subst (λ ns. DenoteAll holds ns ts) same d.2) in
      depth_at-denotes n (node op' ts) d ∙ ap (λ k. 1 + k) (sym below)

  -- a node that denotes a tree leads one further down than its inputs
  pub depth_of_inputs : (n : ℕ) (op : Op) (inputs : List ℕ) → holds n op inputs → DenotesTree holds n → depth_at shape n ≡ 1 + greatest (depth_at shape) inputs
  depth_of_inputs n op inputs h d = depth_of_tree n op inputs h d.tree d.denotes

  each_input : (ns : List ℕ) (ts : Trees Op) (depth : ℕ) → DenoteAll holds ns ts → trees_depth ts < depth → AllByRecursion (λ m. DenotesTree holds m × (depth_at shape m < depth)) ns
  each_input [] no_more depth d lt = tt
  each_input (n ∷ ns) (more t ts) depth d lt =
      ((record { tree = t; denotes = d.0 }, omega (arith, depth_at-denotes n t d.0)), each_input ns ts depth d.1 (omega arith))
  each_input [] (more t ts) depth d lt = absurd d
  each_input (n ∷ ns) no_more depth d lt = absurd d

  inputs_of_tree : (n : ℕ) (op : Op) (inputs : List ℕ) → holds n op inputs → (t : Tree Op) → Denotes holds n t → AllByRecursion (λ m. DenotesTree holds m × (depth_at shape m < depth_at shape n)) inputs
  inputs_of_tree n op inputs h (node op' ts) d =
      let same = same_inputs n op' op d.0 inputs d.1 h in
      let depth = depth_at-denotes n (node op' ts) d in
      each_input inputs ts (depth_at shape n) (subst (λ ns. DenoteAll holds ns ts) same d.2) (omega arith)

  -- the inputs of a node that denotes a tree denote trees, and lead less far down
  pub inputs_denote : (n : ℕ) (op : Op) (inputs : List ℕ) → holds n op inputs → DenotesTree holds n → AllByRecursion (λ m. DenotesTree holds m × (depth_at shape m < depth_at shape n)) inputs
  inputs_denote n op inputs h d = inputs_of_tree n op inputs h d.tree d.denotes

-- a change that keeps what is held keeps every tree
module _ {Op : Type 0} (holds holds' : ℕ → Op → List ℕ → Type 0) (keeps : (n : ℕ) (op : Op) (inputs : List ℕ) → holds n op inputs → holds' n op inputs) where
  mutual
    pub kept : (n : ℕ) (t : Tree Op) → Denotes holds n t → Denotes holds' n t
    kept n (node op ts) d = (d.0, keeps n op d.0 d.1, kept_all d.0 ts d.2)

    kept_all : (ns : List ℕ) (ts : Trees Op) → DenoteAll holds ns ts → DenoteAll holds' ns ts
    kept_all [] no_more d = tt
    kept_all (n ∷ ns) (more t ts) d = (kept n t d.0, kept_all ns ts d.1)
    kept_all [] (more t ts) d = absurd d
    kept_all (n ∷ ns) no_more d = absurd d

  pub kept_tree : (n : ℕ) → DenotesTree holds n → DenotesTree holds' n
  kept_tree n d = record { tree = d.tree; denotes = kept n d.tree d.denotes }

-- a change at one node
module _ {Op : Type 0} (shape : List (List ℕ)) (holds holds' : ℕ → Op → List ℕ → Type 0) (laws : HasShape shape holds) (at : ℕ) (keeps : (n : ℕ) (op : Op) (inputs : List ℕ) → n ≢ at → holds n op inputs → holds' n op inputs) (t : Tree Op) (d : Denotes holds at t) where
  elsewhere : (n : ℕ) (u : Tree Op) → Denotes holds n u → tree_depth u < tree_depth t → n ≢ at
  elsewhere n u e lt same =
      let one = ap tree_depth (denotes_one shape holds laws at t u d (subst (λ k. Denotes holds k u) same e)) in
      absurd (omega arith)

  mutual
    -- every smaller tree stays
    pub kept_below : (n : ℕ) (u : Tree Op) → Denotes holds n u → tree_depth u < tree_depth t → Denotes holds' n u
    kept_below n (node op us) e lt =
        (e.0, keeps n op e.0 (elsewhere n (node op us) e lt) e.1, all_kept_below e.0 us e.2 (omega arith))

    pub all_kept_below : (ns : List ℕ) (us : Trees Op) → DenoteAll holds ns us → trees_depth us < tree_depth t → DenoteAll holds' ns us
    all_kept_below [] no_more e lt = tt
    all_kept_below (n ∷ ns) (more u us) e lt = (kept_below n u e.0 (omega arith), all_kept_below ns us e.1 (omega arith))
    all_kept_below [] (more u us) e lt = absurd e
    all_kept_below (n ∷ ns) no_more e lt = absurd e

  -- every tree becomes a related one, where its node's tree does and a node over related trees is related
  module _ (R : Tree Op → Tree Op → Type 0) (closed : (op : Op) (us vs : Trees Op) → AllRelated R us vs → R (node op us) (node op vs)) (t' : Tree Op) (d' : Denotes holds' at t') (related : R t t') where
    here : (n : ℕ) (u : Tree Op) → n ≡ at → Denotes holds n u → (v : Tree Op) × Denotes holds' n v × R u v
    here n u same e =
        let one = denotes_one shape holds laws at t u d (subst (λ k. Denotes holds k u) same e) in
        (t', subst (λ k. Denotes holds' k t') (sym same) d', subst (λ w. R w t') one related)

    mutual
      pub replaced : (n : ℕ) (u : Tree Op) → Denotes holds n u → (v : Tree Op) × Denotes holds' n v × R u v
      replaced n (node op us) e =
          ⊎_elim
          (λ same. here n (node op us) same e)
          (λ other.
          let below = all_replaced e.0 us e.2 in
          (node op below.0, (e.0, keeps n op e.0 other e.1, below.1), closed op us below.0 below.2))
          (same_or_other n at)

      all_replaced : (ns : List ℕ) (us : Trees Op) → DenoteAll holds ns us → (vs : Trees Op) × DenoteAll holds' ns vs × AllRelated R us vs
      all_replaced [] no_more e = (no_more, tt, tt)
      all_replaced (n ∷ ns) (more u us) e =
          let head = replaced n u e.0 in
          let tail = all_replaced ns us e.1 in
          (more head.0 tail.0, (head.1, tail.1), (head.2, tail.2))
      all_replaced [] (more u us) e = absurd e
      all_replaced (n ∷ ns) no_more e = absurd e
