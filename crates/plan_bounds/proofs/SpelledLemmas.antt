-- What a query's expression has with its horizontals written out is no more than what these count for as nodes.
use Rattle.std.proofs.Common.{◌≡◌, ◌≤◌, ◌&&◌, ◌||◌, ℕ, zero, suc, zero-le, is_some, ◌+◌, Bool, true, false, not, cond, List, [], ◌∷◌, length, Some, None, Option, Result, Ok, Err, refl, sym, ap, subst, ◌∙◌, arith}
use Rattle.std.specs.Prelude.{ℤ, sum, unwrap_or}
use Rattle.std.proofs.lemmas.List.Sums.{sum_by-cons}
use Rattle.std.proofs.lemmas.Bool.{and_parts}
use Rattle.plan_types.specs.declared.error.ErrorKind.{ErrorKind}
use Rattle.plan_types.specs.declared.error.ErrorKind.TheVariants.{InvalidOperation}
use Rattle.plan_types.specs.declared.dtype.CastOptions.TheVariants.{NonStrict}
use Rattle.plan_types.specs.Types.{Ty, Truth, Untyped, same_type}
use Rattle.plan_types.specs.TypeLaws.{same_type_own}
use Rattle.plan_types.specs.Casts.{Gives, can_cast, cast}
use Rattle.plan_types.specs.CommonTypes.{type_alone}
use Rattle.plan_types.specs.Values.{Val, TruthValue, IntValue}
use Rattle.plan_types.specs.Schemas.{Columns}
use Rattle.plan_types.specs.Frames.{Frame}
use Rattle.plan_types.proofs.CastLemmas.{cast_own}
use Rattle.plan_types.proofs.CommonLemmas.{alone_same, literal_has}
use Rattle.plan_dsl.specs.declared.function_expr.FunctionExpr.{FunctionExpr}
use Rattle.plan_dsl.specs.declared.function_expr.FunctionExpr.TheVariants.{AllHorizontal, AnyHorizontal}
use Rattle.plan_dsl.specs.declared.operator.Operator.{Operator}
use Rattle.plan_dsl.specs.declared.operator.Operator.TheVariants.{LogicalAnd, LogicalOr}
use Rattle.plan_dsl.specs.Aliases.{all_pruned, chain, chained, core, is_written_out, put_together, spelled}
use Rattle.plan_dsl.specs.Counts.{op_casts, expression_casts}
use Rattle.plan_dsl.specs.InlinedCasts.{literal_cast, literal_given}
use Rattle.plan_dsl.specs.Literals.{is_literal, settled}
use Rattle.plan_dsl.specs.Names.{Label, op_label}
use Rattle.plan_dsl.specs.Ops.{Op, LiteralOp, BinaryOp, CastOp, AliasOp, FunctionOp, Expression}
use Rattle.plan_dsl.specs.Registry.{Registry}
use Rattle.plan_dsl.specs.Trees.{Trees, node, no_more, more, fold_all, tree_count}
use Rattle.plan_dsl.specs.Typing.{Typed, Ruling, cast_taken, rule, ruled_as, typed_before, types_of, typing, typing_all}
use Rattle.plan_dsl.proofs.AliasLemmas.{pruned_settled}
use Rattle.plan_dsl.proofs.ChainLemmas.{IsChained, all_chained, any_chained, chain_parts, link_takes, node_takes, of_truth, truths}
use Rattle.plan_dsl.proofs.CoreLemmas.{alike_typed, all_pruned_same, pruned_alone, pruned_same}
use Rattle.plan_dsl.proofs.LiteralLemmas.{becomes_literal}
use Rattle.plan_dsl.proofs.TypingLemmas.{by_children, by_no_children, ok_same, typed_parts}
use Rattle.plan_bounds.specs.Counts.{all_idle_casts, all_implicit_casts, becomes_cast, chain_nodes, changed_casts, idle_casts, is_already, needed_casts, node_casts, operand_casts, operands_casts, other_nodes, other_nodes_step, own_nodes, ruled_casts}
use Rattle.plan_bounds.specs.Laws.{SpelledIsCounted}
use Rattle.plan_bounds.specs.LoweredPlans.{has_wide_horizontals, have_wide_horizontals, is_wide}
use Rattle.plan_bounds.proofs.CountLemmas.{cast_cost, idle_cost, op_casts_are}
use Rattle.plan_bounds.proofs.WideLemmas.{IsWide, AllWide, function_wide, pruned_many}

-- ---- typed nodes

-- what the rule says of a typed node over children with these typings
record Ruled (registry : Registry) (schema : Columns) (op : Op) (below : List Typed) (typed : Typed) : Type 0 where
  pub ruling : Ruling
  pub rules : rule registry schema op below ≡ Ok ruling
  pub is : ruling.own ≡ typed

rules_over : (registry : Registry) (schema : Columns) (op : Op) (children : Trees Op) (typed : Typed) (below : List Typed) → typing registry schema (node op children) ≡ Ok typed → typing_all registry schema children ≡ Ok below → Ruled registry schema op below typed
rules_over registry schema op children typed below h e =
    let p = typed_parts registry schema op children typed h in
    record { ruling = p.ruling; rules = ap (rule registry schema op) (ok_same (typing_all registry schema children) below p.below e p.children_typed) ∙ p.rules; is = p.is }

-- there are as many typings as children
typed_many : (registry : Registry) (schema : Columns) (trees : Trees Op) (typed : List Typed) → typing_all registry schema trees ≡ Ok typed → length typed ≡ tree_count trees
typed_many registry schema no_more typed h = by_no_children (λ ts. length ts ≡ 0) typed h refl
typed_many registry schema (more tree trees) typed h =
    by_children (λ ts. length ts ≡ suc (tree_count trees)) _ _ typed h (λ t ts first rest. ap suc (typed_many registry schema trees ts rest))

-- ---- counts by what each node counts over typed children

record IsCountedBy (registry : Registry) (schema : Columns) (count : Expression → ℕ) (all : Trees Op → ℕ) (own : Op → List Typed → ℕ) : Type 0 where
  pub at : (op : Op) (children : Trees Op) (below : List Typed) → typing_all registry schema children ≡ Ok below → count (node op children) ≡ own op below + all children
  pub none : all no_more ≡ zero
  pub first : (tree : Expression) (trees : Trees Op) → all (more tree trees) ≡ count tree + all trees

-- what operands behind the first add to a chain
abbrev links : (Typed → ℕ) → ℕ → List Typed → ℕ
links share link [] = 0
links share link (t ∷ ts) = share t + (link + links share link ts)

-- What is asked of two counts of a node, such that the second of a horizontal covers the first of what it is written out to:
-- a link of a chain counts no more than a share for each of its operands, of which a link has none, and one for itself.
record CoversChains (registry : Registry) (schema : Columns) (plain out : Op → List Typed → ℕ) : Type 0 where
  pub share : Typed → ℕ
  pub link : ℕ
  pub stays : (op : Op) (below : List Typed) → is_wide op (length below) ≡ true → plain op below ≤ out op below
  pub nothing : (function : FunctionExpr) (labels : List Label) (value : Val) → is_wide (FunctionOp function labels) 0 ≡ false → plain (LiteralOp Truth value) [] ≤ out (FunctionOp function labels) []
  pub alone : (function : FunctionExpr) (labels : List Label) (t : Typed) (ruling : Ruling) → is_wide (FunctionOp function labels) 1 ≡ false → rule registry schema (CastOp Truth NonStrict) (t ∷ []) ≡ Ok ruling → plain (CastOp Truth NonStrict) (t ∷ []) ≤ out (FunctionOp function labels) (t ∷ [])
  pub pair : (operator : Operator) (l r : Typed) (ruling : Ruling) → rule registry schema (BinaryOp operator) (l ∷ r ∷ []) ≡ Ok ruling → ruling.operands ≡ Truth ∷ Truth ∷ [] → plain (BinaryOp operator) (l ∷ r ∷ []) ≤ share l + (share r + link)
  pub truth : (many : Bool) → share (of_truth many) ≡ zero
  pub several : (function : FunctionExpr) (labels : List Label) (f n : Typed) (ts : List Typed) (ruling : Ruling) → is_wide (FunctionOp function labels) (length (f ∷ n ∷ ts)) ≡ false → rule registry schema (FunctionOp function labels) (f ∷ n ∷ ts) ≡ Ok ruling → ruling.operands ≡ truths (f ∷ n ∷ ts) → share f + links share link (n ∷ ts) ≤ out (FunctionOp function labels) (f ∷ n ∷ ts)

-- ---- what is written out is covered

module _ (registry : Registry) (schema : Columns) (count other : Expression → ℕ) (all others : Trees Op → ℕ) (plain out : Op → List Typed → ℕ) (before : IsCountedBy registry schema count all plain) (after : IsCountedBy registry schema other others out) (covers : CoversChains registry schema plain out) where
  -- a node that stays
  node_within : (op : Op) (us vs : Trees Op) (below : List Typed) → typing_all registry schema us ≡ Ok below → typing_all registry schema vs ≡ Ok below → is_wide op (length below) ≡ true → all us ≤ others vs → count (node op us) ≤ other (node op vs)
  node_within op us vs below u v wide most =
      let left = before.at op us below u in
      let right = after.at op vs below v in
      let own = covers.stays op below wide in
      omega (arith, left, right, own, most)

  module _ (function : FunctionExpr) (operator : Operator) (nothing : Bool) (is : IsChained function operator nothing) where
    chain_within : (tree : Expression) (f : Typed) (us : Trees Op) (ts : List Typed) (typed : Typed) → typing registry schema tree ≡ Ok f → typing_all registry schema us ≡ Ok ts → typing registry schema (chain operator tree us) ≡ Ok typed → count (chain operator tree us) ≤ count tree + covers.share f + all us + links covers.share covers.link ts
    chain_within tree f no_more ts typed first rest h = omega arith
    chain_within tree f (more next us) ts typed first rest h =
        by_children (λ ts. count (chain operator tree (more next us)) ≤ count tree + covers.share f + all (more next us) + links covers.share covers.link ts) _ _ ts rest (λ n ns second last.
        let operands = more tree (more next no_more) in
        let linked = node (BinaryOp operator) operands in
        let many = f.many || (n.many || false) in
        let parts = chain_parts registry function operator nothing is schema linked us typed h in
        let below : typing_all registry schema operands ≡ Ok (f ∷ n ∷ []) = λ i. typed_before (first i) (typed_before (second i) (Ok [])) in
        let ruled = rules_over registry schema (BinaryOp operator) operands parts.first (f ∷ n ∷ []) parts.first_typed below in
        let taken = link_takes registry function operator nothing is schema f n ruled.ruling ruled.rules in
        let link_typed : typing registry schema linked ≡ Ok (of_truth many) = parts.first_typed ∙ ap Ok (sym ruled.is ∙ ap (λ r. r.own) taken) in
        let whole = chain_within linked (of_truth many) us ns typed link_typed last h in
        let here = before.at (BinaryOp operator) operands (f ∷ n ∷ []) below in
        let own = covers.pair operator f n ruled.ruling ruled.rules (ap (λ r. r.operands) taken) in
        let none = covers.truth many in
        let left = before.first tree (more next no_more) in
        let right = before.first next no_more in
        let end = before.none in
        let behind = before.first next us in
        omega (arith, whole, here, own, none, left, right, end, behind))

    nothing_within : (labels : List Label) → is_wide (FunctionOp function labels) 0 ≡ false → count (node (LiteralOp Truth (TruthValue nothing)) no_more) ≤ other (node (FunctionOp function labels) no_more)
    nothing_within labels narrow =
        let left = before.at (LiteralOp Truth (TruthValue nothing)) no_more [] refl in
        let right = after.at (FunctionOp function labels) no_more [] refl in
        let own = covers.nothing function labels (TruthValue nothing) narrow in
        let none = before.none in
        omega (arith, left, right, own, none)

    abbrev IsNarrow : List Label → List Typed → Type 0
    IsNarrow labels ts = is_wide (FunctionOp function labels) (length ts) ≡ false

    alone_within : (labels : List Label) (u : Expression) (vs : Trees Op) (t typed : Typed) → typing_all registry schema (more u no_more) ≡ Ok (t ∷ []) → typing_all registry schema vs ≡ Ok (t ∷ []) → typing registry schema (chained operator nothing (more u no_more)) ≡ Ok typed → IsNarrow labels (t ∷ []) → all (more u no_more) ≤ others vs → count (chained operator nothing (more u no_more)) ≤ other (node (FunctionOp function labels) vs)
    alone_within labels u vs t typed first second h narrow most =
        let ruled = rules_over registry schema (CastOp Truth NonStrict) (more u no_more) typed (t ∷ []) h first in
        let left = before.at (CastOp Truth NonStrict) (more u no_more) (t ∷ []) first in
        let right = after.at (FunctionOp function labels) vs (t ∷ []) second in
        let own = covers.alone function labels t ruled.ruling narrow ruled.rules in
        omega (arith, left, right, own, most)

    several_within : (labels : List Label) (u w : Expression) (us vs : Trees Op) (f n : Typed) (ts : List Typed) (typed own : Typed) → typing registry schema u ≡ Ok f → typing_all registry schema (more w us) ≡ Ok (n ∷ ts) → typing_all registry schema vs ≡ Ok (f ∷ n ∷ ts) → typing registry schema (chained operator nothing (more u (more w us))) ≡ Ok typed → typing registry schema (node (FunctionOp function labels) vs) ≡ Ok own → IsNarrow labels (f ∷ n ∷ ts) → all (more u (more w us)) ≤ others vs
        → count (chained operator nothing (more u (more w us))) ≤ other (node (FunctionOp function labels) vs)
    several_within labels u w us vs f n ts typed own first rest second h k narrow most =
        let ruled = rules_over registry schema (FunctionOp function labels) vs own (f ∷ n ∷ ts) k second in
        let taken = node_takes registry function operator nothing is schema f n ts ruled.ruling ruled.rules in
        let whole = chain_within u f (more w us) (n ∷ ts) typed first rest h in
        let right = after.at (FunctionOp function labels) vs (f ∷ n ∷ ts) second in
        let most_own = covers.several function labels f n ts ruled.ruling narrow ruled.rules taken in
        let behind = before.first u (more w us) in
        omega (arith, whole, right, most_own, behind, most)

    chained_within : (labels : List Label) (children : Trees Op) (below : List Typed) (typed own : Typed) → typing_all registry schema (all_pruned false true children) ≡ Ok below → typing_all registry schema (all_pruned false false children) ≡ Ok below → typing registry schema (chained operator nothing (all_pruned false true children)) ≡ Ok typed → typing registry schema (node (FunctionOp function labels) (all_pruned false false children)) ≡ Ok own → IsNarrow labels below → all (all_pruned false true children) ≤ others (all_pruned false false children)
        → count (chained operator nothing (all_pruned false true children)) ≤ other (node (FunctionOp function labels) (all_pruned false false children))
    chained_within labels no_more below typed own u v h k narrow most =
        by_no_children (λ ts. IsNarrow labels ts → count (chained operator nothing no_more) ≤ other (node (FunctionOp function labels) no_more)) below u (nothing_within labels) narrow
    chained_within labels (more tree no_more) below typed own u v h k narrow most =
        let us = more (spelled tree) no_more in
        let vs = more (core tree) no_more in
        let Goal = count (chained operator nothing us) ≤ other (node (FunctionOp function labels) vs) in
        by_children (λ ts. typing_all registry schema us ≡ Ok ts → typing_all registry schema vs ≡ Ok ts → IsNarrow labels ts → Goal) _ _ below u (λ t ts first rest.
        by_no_children (λ ts. typing_all registry schema us ≡ Ok (t ∷ ts) → typing_all registry schema vs ≡ Ok (t ∷ ts) → IsNarrow labels (t ∷ ts) → Goal) ts rest (λ u v narrow.
        alone_within labels (spelled tree) vs t typed u v h narrow most)) u v narrow
    chained_within labels (more tree (more next trees)) below typed own u v h k narrow most =
        let us = more (spelled next) (all_pruned false true trees) in
        let vs = all_pruned false false (more tree (more next trees)) in
        let Goal = count (chained operator nothing (more (spelled tree) us)) ≤ other (node (FunctionOp function labels) vs) in
        by_children (λ ts. typing_all registry schema vs ≡ Ok ts → IsNarrow labels ts → Goal) _ _ below u (λ f fs first rest.
        by_children (λ fs. typing_all registry schema us ≡ Ok fs → typing_all registry schema vs ≡ Ok (f ∷ fs) → IsNarrow labels (f ∷ fs) → Goal) _ _ fs rest (λ n ns second last us_typed v narrow.
        several_within labels (spelled tree) (spelled next) (all_pruned false true trees) vs f n ns typed own first us_typed v h k narrow most) rest) v narrow

  -- a function that is written out, or stays
  function_within : (function : FunctionExpr) (out : Bool) (labels : List Label) (children : Trees Op) (below : List Typed) (typed own : Typed) → is_written_out true (FunctionOp function []) (length below) ≡ out → typing_all registry schema (all_pruned false true children) ≡ Ok below → typing_all registry schema (all_pruned false false children) ≡ Ok below → typing registry schema (put_together false out (FunctionOp function []) labels (all_pruned false true children)) ≡ Ok typed
      → typing registry schema (node (FunctionOp function labels) (all_pruned false false children)) ≡ Ok own → all (all_pruned false true children) ≤ others (all_pruned false false children)
      → count (put_together false out (FunctionOp function []) labels (all_pruned false true children)) ≤ other (node (FunctionOp function labels) (all_pruned false false children))
  function_within AllHorizontal true labels children below typed own e u v h k most = chained_within AllHorizontal LogicalAnd true all_chained labels children below typed own u v h k (ap not e) most
  function_within AnyHorizontal true labels children below typed own e u v h k most = chained_within AnyHorizontal LogicalOr false any_chained labels children below typed own u v h k (ap not e) most
  function_within _ true labels children below typed own e u v h k most = cc
  function_within function false labels children below typed own e u v h k most =
      node_within (FunctionOp function labels) (all_pruned false true children) (all_pruned false false children) below u v (ap not e) most

  abbrev frame : Frame
  frame = record { schema = schema; rows = [] }

  all_typed : (write : Bool) (trees : Trees Op) (typed : List Typed) → typing_all registry schema trees ≡ Ok typed → typing_all registry schema (all_pruned false write trees) ≡ Ok typed
  all_typed write trees typed h = (all_pruned_same registry frame write false trees typed h).typings

  -- a node that stays over children that are covered
  stays_within : (op : Op) (children : Trees Op) (typed : Typed) → typing registry schema (node op children) ≡ Ok typed → IsWide (node op (all_pruned false true children)) → ((below : List Typed) → typing_all registry schema children ≡ Ok below → AllWide (all_pruned false true children) → all (all_pruned false true children) ≤ others (all_pruned false false children)) → count (node op (all_pruned false true children)) ≤ other (node op (all_pruned false false children))
  stays_within op children typed h wide most =
      let p = typed_parts registry schema op children typed h in
      let us = all_pruned false true children in
      let u = all_typed true children p.below p.children_typed in
      let both = and_parts (is_wide op (tree_count us)) (have_wide_horizontals us) wide in
      node_within op us (all_pruned false false children) p.below u (all_typed false children p.below p.children_typed) (ap (is_wide op) (typed_many registry schema us p.below u) ∙ both.0) (most p.below p.children_typed both.1)

  mutual
    spelled_count : (tree : Expression) (typed : Typed) → typing registry schema tree ≡ Ok typed → IsWide (spelled tree) → count (spelled tree) ≤ other (core tree)
    spelled_count (node (AliasOp name) (more tree no_more)) typed h wide =
        let p = typed_parts registry schema (AliasOp name) (more tree no_more) typed h in
        by_children (λ _. count (spelled tree) ≤ other (core tree)) _ _ p.below p.children_typed (λ t ts first rest. spelled_count tree t first wide)
    spelled_count (node (FunctionOp function []) children) typed h wide =
        let op = FunctionOp function [] in
        let p = typed_parts registry schema op children typed h in
        let labels = fold_all op_label children in
        let count_is = typed_many registry schema children p.below p.children_typed in
        function_within function (is_written_out true op (tree_count children)) labels children p.below typed typed (ap (is_written_out true op) count_is) (all_typed true children p.below p.children_typed) (all_typed false children p.below p.children_typed)
        (pruned_same registry frame true false (node op children) typed h).typing (pruned_same registry frame false false (node op children) typed h).typing
        (spelled_counts children p.below p.children_typed (sym (function_wide function (is_written_out true op (tree_count children)) labels (all_pruned false true children) (ap (is_written_out true op) (pruned_many false true children))) ∙ wide))
    spelled_count (node (FunctionOp function (label ∷ recorded)) children) typed h wide = stays_within (FunctionOp function (label ∷ recorded)) children typed h wide (λ below typed wide. spelled_counts children below typed wide)
    spelled_count (node op children) typed h wide = stays_within op children typed h wide (λ below typed wide. spelled_counts children below typed wide)

    spelled_counts : (trees : Trees Op) (typed : List Typed) → typing_all registry schema trees ≡ Ok typed → AllWide (all_pruned false true trees) → all (all_pruned false true trees) ≤ others (all_pruned false false trees)
    spelled_counts no_more typed h wide = let left = before.none in omega (arith, left)
    spelled_counts (more tree trees) typed h wide =
        by_children (λ _. all (all_pruned false true (more tree trees)) ≤ others (all_pruned false false (more tree trees))) _ _ typed h (λ t ts first rest.
        let both = and_parts (has_wide_horizontals (spelled tree)) (have_wide_horizontals (all_pruned false true trees)) wide in
        let own = spelled_count tree t first both.0 in
        let below = spelled_counts trees ts rest both.1 in
        let left = before.first (spelled tree) (all_pruned false true trees) in
        let right = after.first (core tree) (all_pruned false false trees) in
        omega (arith, own, below, left, right))

-- ---- each count

fold_many : {A : Type 0} (step : Op → List A → A) (trees : Trees Op) → length (fold_all step trees) ≡ tree_count trees
fold_many step no_more = refl
fold_many step (more tree trees) = ap suc (fold_many step trees)

module _ (registry : Registry) (schema : Columns) (write : Bool) where
  abbrev own_needs : Op → List Typed → ℕ
  own_needs op below = cast_cost op (Ok below) + node_casts write registry schema op (Ok below)

  abbrev all_needs : Trees Op → ℕ
  all_needs trees = sum (fold_all op_casts trees) + all_implicit_casts write registry schema trees

  needs_counted : IsCountedBy registry schema (needed_casts write registry schema) all_needs own_needs
  needs_counted = record {
    at = λ op children below h.
        let casts = op_casts_are registry schema op children in
        let cost = ap (cast_cost op) h in
        let own = ap (node_casts write registry schema op) h in
        omega (arith, casts, cost, own);
    none = refl;
    first = λ tree trees. let whole = sum_by-cons (λ (x : ℕ). x) (expression_casts tree) (fold_all op_casts trees) in omega (arith, whole);
  }

  abbrev own_others : Op → List Typed → ℕ
  own_others op below = own_nodes write op (length below)

  abbrev all_others : Trees Op → ℕ
  all_others trees = sum (fold_all (other_nodes_step write) trees)

  others_count : IsCountedBy registry schema (other_nodes write) all_others own_others
  others_count = record {
    at = λ op children below h. ap (λ n. own_nodes write op n + all_others children) (fold_many (other_nodes_step write) children ∙ sym (typed_many registry schema children below h));
    none = refl;
    first = λ tree trees. let whole = sum_by-cons (λ (x : ℕ). x) (other_nodes write tree) (fold_all (other_nodes_step write) trees) in omega (arith, whole);
  }

  abbrev own_idle : Op → List Typed → ℕ
  own_idle op below = idle_cost write op (Ok below)

  idle_count : IsCountedBy registry schema (idle_casts write registry schema) (all_idle_casts write registry schema) own_idle
  idle_count = record {
    at = λ op children below h. ap (λ found. idle_cost write op found + all_idle_casts write registry schema children) h;
    none = refl;
    first = λ tree trees. refl;
  }

-- ---- what each is covered by

-- an operand that is taken to the type that it has alone needs no cast
literal_there : (own : Ty) (number : ℤ) → is_literal own (IntValue number) ≡ true → can_cast own own ≡ true → is_some (literal_cast own (IntValue number) own NonStrict) ≡ true
literal_there own number literal casts =
    (λ i. is_some (cond (literal i && casts i) (literal_given own (cond (same_type_own own i) (Gives (IntValue number)) (cast (IntValue number) own own NonStrict))) None))
    ∙ (λ i. is_some (cond (literal i) (Some (node (LiteralOp own (IntValue number)) no_more)) None))

number_alone : (number : ℤ) (own : Ty) → type_alone (Untyped number) ≡ Some own → changed_casts (Untyped number) own ≡ zero
number_alone number own alone =
    let has = literal_has number own alone in
    ap (λ type. cond (is_some (literal_cast type (IntValue number) own NonStrict)) 0 1) (ap (λ found. unwrap_or found (Untyped number)) alone)
    ∙ ap (λ b. cond b 0 1) (literal_there own number (becomes_literal own number has.1 has.0) (cast_own own has.1))

alone_needs : (from own : Ty) → type_alone from ≡ Some own → operand_casts from own ≡ zero
alone_needs (Untyped number) own alone =
    elim (same_type (Untyped number) own) as (λ b. cond b 0 (changed_casts (Untyped number) own) ≡ zero) [ true ↦ refl | false ↦ number_alone number own alone ]
alone_needs from own alone =
    let same = alone_same from own alone (λ number e. cc) in ap (λ b. cond b 0 (changed_casts from own)) (ap (same_type from) same ∙ same_type_own from)

none_needed : (found : Result Ruling ErrorKind) → ruled_casts [] found ≡ zero
none_needed (Err kind) = refl
none_needed (Ok ruling) = refl

-- a node that stays becomes no cast
no_cast : (op : Op) (below : List Typed) → is_wide op (length below) ≡ true → becomes_cast op below ≡ false
no_cast op [] wide = refl
no_cast op (t ∷ []) wide = ap not wide
no_cast op (t ∷ n ∷ ts) wide = refl

links_need : (ts : List Typed) → links (λ t. operand_casts t.type Truth) 0 ts ≡ operands_casts (types_of ts) (truths ts)
links_need [] = refl
links_need (t ∷ ts) = let below = links_need ts in omega (arith, below)

links_nodes : (ts : List Typed) → links (λ t. 0) 1 ts ≡ length ts
links_nodes [] = refl
links_nodes (t ∷ ts) = let below = links_nodes ts in omega (arith, below)

links_idle : (ts : List Typed) → links (λ t. 0) 0 ts ≡ zero
links_idle [] = refl
links_idle (t ∷ ts) = let below = links_idle ts in omega (arith, below)

module _ (registry : Registry) (schema : Columns) where
  cast_needs : (t : Typed) (own : Option Ty) → type_alone t.type ≡ own → (ruling : Ruling) → ruled_as (cast_taken Truth own) t.many ≡ Ok ruling → operands_casts (t.type ∷ []) ruling.operands ≡ zero
  cast_needs t None alone ruling rules = cc
  cast_needs t (Some own) alone ruling rules =
      elim (can_cast own Truth) as (λ b. ruled_as (cond b (Ok (record { operands = own ∷ []; type = Truth })) (Err InvalidOperation)) t.many ≡ Ok ruling → operands_casts (t.type ∷ []) ruling.operands ≡ zero) [
        | true ↦ λ e.
            let is : ruling ≡ record { operands = own ∷ []; own = record { type = Truth; many = t.many } } = cc in
            ap (λ r. operands_casts (t.type ∷ []) r.operands) is ∙ ap (λ n. n + 0) (alone_needs t.type own alone)
        | false ↦ λ e. cc
      ] rules

  needs_cover : CoversChains registry schema (own_needs registry schema false) (own_needs registry schema true)
  needs_cover = record {
    share = λ t. operand_casts t.type Truth;
    link = 0;
    stays = λ op below wide.
        let same = ap (λ b. cond b 1 (ruled_casts (types_of below) (rule registry schema op below))) (no_cast op below wide) in
        omega (arith, same);
    nothing = λ function labels value narrow. let none = none_needed (rule registry schema (LiteralOp Truth value) []) in omega (arith, none);
    alone = λ function labels t ruling narrow rules.
        let none = ap (ruled_casts (t.type ∷ [])) rules ∙ cast_needs t (type_alone t.type) refl ruling rules in
        let one = ap (λ b. cond (not b) 1 (ruled_casts (t.type ∷ []) (rule registry schema (FunctionOp function labels) (t ∷ [])))) narrow in
        omega (arith, none, one);
    pair = λ operator l r ruling rules takes.
        let own = ap (ruled_casts (l.type ∷ r.type ∷ [])) rules ∙ ap (operands_casts (l.type ∷ r.type ∷ [])) takes in
        omega (arith, own);
    truth = λ many. refl;
    several = λ function labels f n ts ruling narrow rules takes.
        let own = ap (ruled_casts (types_of (f ∷ n ∷ ts))) rules ∙ ap (operands_casts (types_of (f ∷ n ∷ ts))) takes in
        let below = links_need (n ∷ ts) in
        omega (arith, own, below);
  }

  nodes_stay : (op : Op) (count : ℕ) → is_wide op count ≡ true → own_nodes false op count ≤ own_nodes true op count
  nodes_stay (CastOp target options) count wide = omega arith
  nodes_stay op count wide = subst (λ b. 1 ≤ cond (not b) (chain_nodes count) 1) (sym wide) (omega arith)

  nodes_cover : CoversChains registry schema (own_others registry schema false) (own_others registry schema true)
  nodes_cover = record {
    share = λ t. 0;
    link = 1;
    stays = λ op below wide. nodes_stay op (length below) wide;
    nothing = λ function labels value narrow. let one = ap (λ b. cond (not b) (chain_nodes 0) 1) narrow in omega (arith, one);
    alone = λ function labels t ruling narrow rules. zero-le;
    pair = λ operator l r ruling rules takes. omega arith;
    truth = λ many. refl;
    several = λ function labels f n ts ruling narrow rules takes.
        let own = ap (λ b. cond (not b) (chain_nodes (suc (suc (length ts)))) 1) narrow in
        let below = links_nodes (n ∷ ts) in
        omega (arith, own, below);
  }

  idle_stay : (op : Op) (below : List Typed) → idle_cost false op (Ok below) ≤ idle_cost true op (Ok below)
  idle_stay (CastOp target options) below = omega arith
  idle_stay op below = zero-le

  idle_cover : CoversChains registry schema (own_idle registry schema false) (own_idle registry schema true)
  idle_cover = record {
    share = λ t. 0;
    link = 0;
    stays = λ op below wide. idle_stay op below;
    nothing = λ function labels value narrow. zero-le;
    alone = λ function labels t ruling narrow rules. let same = ap {B = ℕ} (λ b. cond (not b && is_already Truth (Ok (t ∷ []))) 1 0) narrow in omega (arith, same);
    pair = λ operator l r ruling rules takes. zero-le;
    truth = λ many. refl;
    several = λ function labels f n ts ruling narrow rules takes. let none = links_idle (n ∷ ts) in omega (arith, none);
  }

  -- ---- the law

  -- a typed expression with its horizontals written out
  pub spelled_is_counted : (tree : Expression) (typed : Typed) → typing registry schema (core tree) ≡ Ok typed → IsWide (spelled tree) → SpelledIsCounted registry schema tree
  spelled_is_counted tree typed h wide =
      let own = pruned_alone registry schema false false tree typed h in
      record {
        casts = spelled_count registry schema (needed_casts false registry schema) (needed_casts true registry schema) (all_needs registry schema false) (all_needs registry schema true) (own_needs registry schema false) (own_needs registry schema true) (needs_counted registry schema false) (needs_counted registry schema true) needs_cover tree typed own wide;
        other_nodes = spelled_count registry schema (other_nodes false) (other_nodes true) (all_others registry schema false) (all_others registry schema true) (own_others registry schema false) (own_others registry schema true) (others_count registry schema false) (others_count registry schema true) nodes_cover tree typed own wide;
        idle = spelled_count registry schema (idle_casts false registry schema) (idle_casts true registry schema) (all_idle_casts false registry schema) (all_idle_casts true registry schema) (own_idle registry schema false) (own_idle registry schema true) (idle_count registry schema false) (idle_count registry schema true) idle_cover tree typed own wide;
      }

  -- and as a plan's node takes it
  pub settled_typed : (tree : Expression) (typed : Typed) → typing registry schema (settled (core tree)) ≡ Ok typed → typing registry schema (settled (spelled tree)) ≡ Ok typed
  settled_typed tree typed h =
      sym (ap (typing registry schema) (pruned_settled true tree)) ∙ alike_typed registry schema false false true (settled tree) typed (ap (typing registry schema) (pruned_settled false tree) ∙ h)

  pub record SettledWithin (tree : Expression) : Type 0 where
    pub casts : needed_casts false registry schema (settled (spelled tree)) ≤ needed_casts true registry schema (settled (core tree))
    pub nodes : other_nodes false (settled (spelled tree)) ≤ other_nodes true (settled (core tree))
    pub idle : idle_casts false registry schema (settled (spelled tree)) ≤ idle_casts true registry schema (settled (core tree))

  pub spelled_within : (tree : Expression) (typed : Typed) → typing registry schema (settled (core tree)) ≡ Ok typed → IsWide (settled (spelled tree)) → SettledWithin tree
  spelled_within tree typed h wide =
      let out = pruned_settled true tree in
      let stays = pruned_settled false tree in
      let whole = spelled_is_counted (settled tree) typed (ap (typing registry schema) stays ∙ h) (ap has_wide_horizontals out ∙ wide) in
      record {
        casts = let left = ap (needed_casts false registry schema) out in let right = ap (needed_casts true registry schema) stays in let most = whole.casts in omega (arith, left, right, most);
        nodes = let left = ap (other_nodes false) out in let right = ap (other_nodes true) stays in let most = whole.other_nodes in omega (arith, left, right, most);
        idle = let left = ap (idle_casts false registry schema) out in let right = ap (idle_casts true registry schema) stays in let most = whole.idle in omega (arith, left, right, most);
      }
