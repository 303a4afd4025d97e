-- What the parts of a predicate have together.
use Rattle.std.proofs.Common.{◌≡◌, ℕ, zero, ◌+◌, ◌≤◌, true, false, cond, List, [], ◌∷◌, ◌++◌, length, map, Result, refl, sym, ap, subst, ◌∙◌, arith}
use Rattle.std.specs.Prelude.{sum_by}
use Rattle.std.proofs.lemmas.List.{length-append, length-map}
use Rattle.std.proofs.lemmas.List.Sums.{sum_by-cons, sum_by-append}
use Rattle.plan_types.specs.declared.error.ErrorKind.{ErrorKind}
use Rattle.plan_types.specs.Schemas.{Columns}
use Rattle.plan_dsl.specs.Counts.{expression_casts, outputs_casts}
use Rattle.plan_dsl.specs.declared.operator.Operator.{Operator}
use Rattle.plan_dsl.specs.Ops.{Op, BinaryOp, Expression}
use Rattle.plan_dsl.specs.Plans.{Named}
use Rattle.plan_dsl.specs.Properties.{permits_pushdown}
use Rattle.plan_dsl.specs.Registry.{Registry}
use Rattle.plan_dsl.specs.Trees.{Trees, node, no_more, more}
use Rattle.plan_dsl.specs.Typing.{Typed, typing_all}
use Rattle.plan_properties.specs.Splitting.{IsCondition, all_conjuncts, conjuncts, is_conjunction, own_named, split_predicate}
use Rattle.plan_properties.proofs.ConjunctLemmas.{both_conditions}
use Rattle.plan_bounds.specs.Counts.{other_nodes, idle_casts}
use Rattle.plan_bounds.specs.Laws.{in_all}
use Rattle.plan_bounds.proofs.CountLemmas.{counted, all_counted, cast_cost, other_cost, idle_cost, casts_counted, others_counted, idle_counted}

-- of two expressions that are equal by a count, lists of them are
counts_same : (f g : Expression → ℕ) → ((tree : Expression) → f tree ≡ g tree) → (es : List (Named Expression)) → in_all f es ≡ in_all g es
counts_same f g same [] = refl
counts_same f g same (e ∷ es) =
    let left = sum_by-cons (λ (x : Named Expression). f x.expression) e es in
    let right = sum_by-cons (λ (x : Named Expression). g x.expression) e es in
    let own = same e.expression in
    let below = counts_same f g same es in
    omega (arith, left, right, own, below)

under_own_names : (f : Expression → ℕ) (trees : List Expression) → in_all f (map own_named trees) ≡ sum_by f trees
under_own_names f [] = refl
under_own_names f (tree ∷ trees) =
    let left = sum_by-cons (λ (x : Named Expression). f x.expression) (own_named tree) (map own_named trees) in
    let right = sum_by-cons f tree trees in
    let below = under_own_names f trees in
    omega (arith, left, right, below)

one_alone : (f : Expression → ℕ) (tree : Expression) → sum_by f (tree ∷ []) ≡ f tree
one_alone f tree = let whole = sum_by-cons f tree [] in omega (arith, whole)

module _ (registry : Registry) (schema : Columns) (cost : Op → Result (List Typed) ErrorKind → ℕ) where
  abbrev count : Expression → ℕ
  count tree = counted registry schema cost tree

  mutual
    parts_counted : (tree : Expression) → sum_by count (conjuncts tree) ≤ count tree
    parts_counted (node op children) =
        let own = one_alone count (node op children) in
        elim (is_conjunction op) as (λ b. sum_by count (cond b (all_conjuncts children) (node op children ∷ [])) ≤ count (node op children)) [ true ↦ let below = all_parts_counted children in omega (arith, below) | false ↦ omega (arith, own) ]

    all_parts_counted : (trees : Trees Op) → sum_by count (all_conjuncts trees) ≤ all_counted registry schema cost trees
    all_parts_counted no_more = omega arith
    all_parts_counted (more tree trees) =
        let whole = sum_by-append count (conjuncts tree) (all_conjuncts trees) in
        let own = parts_counted tree in
        let below = all_parts_counted trees in
        omega (arith, whole, own, below)

  -- where a conjunction costs nothing, the parts have all
  module _ (free : (op : Op) → is_conjunction op ≡ true → (found : Result (List Typed) ErrorKind) → cost op found ≡ zero) where
    mutual
      parts_have_all : (tree : Expression) → sum_by count (conjuncts tree) ≡ count tree
      parts_have_all (node op children) =
          let own = one_alone count (node op children) in
          elim (is_conjunction op) as (λ b. is_conjunction op ≡ b → sum_by count (cond b (all_conjuncts children) (node op children ∷ [])) ≡ count (node op children)) [
            | true ↦ λ e. let below = all_parts_have_all children in let none = free op e (typing_all registry schema children) in omega (arith, below, none)
            | false ↦ λ e. own
          ] refl

      all_parts_have_all : (trees : Trees Op) → sum_by count (all_conjuncts trees) ≡ all_counted registry schema cost trees
      all_parts_have_all no_more = refl
      all_parts_have_all (more tree trees) =
          let whole = sum_by-append count (conjuncts tree) (all_conjuncts trees) in
          let own = parts_have_all tree in
          let below = all_parts_have_all trees in
          omega (arith, whole, own, below)

    split_has_all : (predicate : Named Expression) → in_all count (split_predicate predicate) ≡ count predicate.expression
    split_has_all predicate =
        let alone = sum_by-cons (λ (x : Named Expression). count x.expression) predicate [] in
        elim (permits_pushdown predicate.expression) as (λ b. in_all count (cond b (map own_named (conjuncts predicate.expression)) (predicate ∷ [])) ≡ count predicate.expression) [
          | true ↦ under_own_names count (conjuncts predicate.expression) ∙ parts_have_all predicate.expression
          | false ↦ omega (arith, alone)
        ]

  split_counted : (predicate : Named Expression) → in_all count (split_predicate predicate) ≤ count predicate.expression
  split_counted predicate =
      let alone = sum_by-cons (λ (x : Named Expression). count x.expression) predicate [] in
      let named = under_own_names count (conjuncts predicate.expression) in
      let parts = parts_counted predicate.expression in
      elim (permits_pushdown predicate.expression) as (λ b. in_all count (cond b (map own_named (conjuncts predicate.expression)) (predicate ∷ [])) ≤ count predicate.expression) [ true ↦ omega (arith, named, parts) | false ↦ omega (arith, alone) ]

free_of_casts : (op : Op) → is_conjunction op ≡ true → (found : Result (List Typed) ErrorKind) → cast_cost op found ≡ zero
free_of_casts (BinaryOp operator) e found = refl
free_of_casts op e found = cc

never_idle : (op : Op) → is_conjunction op ≡ true → (found : Result (List Typed) ErrorKind) → idle_cost false op found ≡ zero
never_idle (BinaryOp operator) e found = refl
never_idle op e found = cc

pub split_casts : (predicate : Named Expression) → outputs_casts (split_predicate predicate) ≡ expression_casts predicate.expression
split_casts predicate =
    counts_same expression_casts (counted [] [] cast_cost) (casts_counted [] []) (split_predicate predicate)
    ∙ split_has_all [] [] cast_cost free_of_casts predicate ∙ sym (casts_counted [] [] predicate.expression)

pub split_nodes : (predicate : Named Expression) → in_all (other_nodes false) (split_predicate predicate) ≤ other_nodes false predicate.expression
split_nodes predicate =
    let left = counts_same (other_nodes false) (counted [] [] other_cost) (others_counted [] []) (split_predicate predicate) in
    let right = others_counted [] [] predicate.expression in
    let parts = split_counted [] [] other_cost predicate in
    omega (arith, left, right, parts)

pub split_idle : (registry : Registry) (schema : Columns) (predicate : Named Expression) → in_all (idle_casts false registry schema) (split_predicate predicate) ≡ idle_casts false registry schema predicate.expression
split_idle registry schema predicate =
    counts_same (idle_casts false registry schema) (counted registry schema (idle_cost false)) (idle_counted registry schema false) (split_predicate predicate)
    ∙ split_has_all registry schema (idle_cost false) never_idle predicate ∙ sym (idle_counted registry schema false predicate.expression)

-- ---- a filter for each part

module _ (registry : Registry) (schema : Columns) where
  abbrev IsSized : List Expression → Expression → Type 0
  IsSized parts tree = sum_by (other_nodes false) parts + length parts ≤ other_nodes false tree + 1

  whole_sized : (tree : Expression) → IsSized (tree ∷ []) tree
  whole_sized tree = let own = one_alone (other_nodes false) tree in omega (arith, own)

  pair_sized : (op : Op) (left right : Expression) (operator : Operator) → op ≡ BinaryOp operator → IsSized (conjuncts left) left → IsSized (conjuncts right) right → IsSized (conjuncts left ++ (conjuncts right ++ [])) (node op (more left (more right no_more)))
  pair_sized op left right operator op_is l r =
      let both = sum_by-append (other_nodes false) (conjuncts left) (conjuncts right ++ []) in
      let last = sum_by-append (other_nodes false) (conjuncts right) [] in
      let lengths = length-append (conjuncts left) (conjuncts right ++ []) in
      let last_length = length-append (conjuncts right) [] in
      let nodes = ap (λ o. other_nodes false (node o (more left (more right no_more)))) op_is in
      omega (arith, l, r, both, last, lengths, last_length, nodes)

  parts_sized : (tree : Expression) → IsCondition registry schema tree → IsSized (conjuncts tree) tree
  parts_sized (node op (more left (more right no_more))) c =
      elim (is_conjunction op) as (λ b. is_conjunction op ≡ b → IsSized (cond b (conjuncts left ++ (conjuncts right ++ [])) (node op (more left (more right no_more)) ∷ [])) (node op (more left (more right no_more)))) [
        | true ↦ λ e.
            let both = both_conditions registry schema op (more left (more right no_more)) e c in
            let first : both.left ≡ left = cc in
            let second : both.right ≡ right = cc in
            pair_sized op left right both.operator both.op_is (parts_sized left (subst (IsCondition registry schema) first both.left_is)) (parts_sized right (subst (IsCondition registry schema) second both.right_is))
        | false ↦ λ e. whole_sized (node op (more left (more right no_more)))
      ] refl
  parts_sized (node op children) c =
      elim (is_conjunction op) as (λ b. is_conjunction op ≡ b → IsSized (cond b (all_conjuncts children) (node op children ∷ [])) (node op children)) [
        | true ↦ λ e. let are = (both_conditions registry schema op children e c).are in cc
        | false ↦ λ e. whole_sized (node op children)
      ] refl

  pub split_size : (predicate : Named Expression) → IsCondition registry schema predicate.expression → in_all (other_nodes false) (split_predicate predicate) + length (split_predicate predicate) ≤ other_nodes false predicate.expression + 1
  split_size predicate c =
      let alone = sum_by-cons (λ (x : Named Expression). other_nodes false x.expression) predicate [] in
      let named = under_own_names (other_nodes false) (conjuncts predicate.expression) in
      let lengths = length-map (conjuncts predicate.expression) own_named in
      let parts = parts_sized predicate.expression c in
      elim (permits_pushdown predicate.expression) as (λ b. in_all (other_nodes false) (cond b (map own_named (conjuncts predicate.expression)) (predicate ∷ [])) + length (cond b (map own_named (conjuncts predicate.expression)) (predicate ∷ [])) ≤ other_nodes false predicate.expression + 1) [ true ↦ omega (arith, named, lengths, parts) | false ↦ omega (arith, alone) ]
