-- Horizontals are wide in a query's expression as a lowered plan takes it. Where casts are written out, and those that can be
-- told beforehand go, they are as wide as before; and they stay so where a filter is split.
use Rattle.std.proofs.Common.{◌≡◌, suc, Bool, true, false, not, cond, List, [], ◌∷◌, map, Option, Some, None, Ok, refl, sym, ap, ◌∙◌}
use Rattle.std.specs.Prelude.{ℤ, ◌&&◌, unwrap_or}
use Rattle.std.specs.List.{AllByRecursion}
use Rattle.std.proofs.lemmas.Bool.{and_from, and_parts}
use Rattle.plan_types.specs.Types.{Ty, Truth, Untyped, same_type}
use Rattle.plan_types.specs.Schemas.{Columns}
use Rattle.plan_types.specs.declared.dtype.CastOptions.{CastOptions}
use Rattle.plan_dsl.specs.declared.expr.Expr.{Expr}
use Rattle.plan_dsl.specs.declared.function_expr.FunctionExpr.{FunctionExpr}
use Rattle.plan_dsl.specs.declared.function_expr.FunctionExpr.TheVariants.{AllHorizontal, AnyHorizontal}
use Rattle.plan_dsl.specs.declared.operator.Operator.{Operator}
use Rattle.plan_dsl.specs.declared.operator.Operator.TheVariants.{LogicalAnd, LogicalOr}
use Rattle.plan_dsl.specs.Aliases.{all_pruned, chain, chained, is_written_out, put_together, renamed, spelled}
use Rattle.plan_dsl.specs.Coercion.{coerced, coerced_all}
use Rattle.plan_dsl.specs.Expressions.{plain_tree}
use Rattle.plan_dsl.specs.InlinedCasts.{all_inlined, cast_of, in_place_of, inlined, is_logical, written_out}
use Rattle.plan_dsl.specs.Literals.{settled, settled_type}
use Rattle.plan_dsl.specs.Names.{Label, op_label}
use Rattle.plan_dsl.specs.Ops.{Op, LiteralOp, BinaryOp, CastOp, AliasOp, FunctionOp, Expression}
use Rattle.plan_dsl.specs.Plans.{Named, Plan}
use Rattle.plan_dsl.specs.Properties.{permits_pushdown}
use Rattle.plan_dsl.specs.Registry.{Registry}
use Rattle.plan_dsl.specs.Strictness.{as_operand, as_operands, cast_to, changed, integer_has, number_as, number_literal}
use Rattle.plan_dsl.specs.Trees.{Trees, node, no_more, more, fold_all, tree_count}
use Rattle.plan_dsl.specs.Typing.{Typed, types_of, typing, typing_all}
use Rattle.plan_dsl.proofs.LiteralLemmas.{untyped, untyped_is_number}
use Rattle.plan_dsl.proofs.OpLemmas.{keeps_rule}
use Rattle.plan_dsl.proofs.SameLemmas.{typings_same}
use Rattle.plan_dsl.proofs.SignatureLemmas.{AllBecome}
use Rattle.plan_dsl.proofs.TypingLemmas.{by_children, by_no_children, typed_parts}
use Rattle.plan_arena.proofs.OperandNameLemmas.{AllHaveNone, HasNone, expr_none}
use Rattle.plan_coerce.proofs.InliningLemmas.{gives_literal, some_where}
use Rattle.plan_coerce.proofs.NameLemmas.{all_coerced_same, fitted_typed}
use Rattle.plan_properties.specs.Splitting.{all_conjuncts, conjuncts, filters_over, is_conjunction, own_named, split_predicate}
use Rattle.plan_properties.proofs.SplittingLemmas.{all_of_both}
use Rattle.plan_bounds.specs.LoweredPlans.{is_wide, has_wide_horizontals, have_wide_horizontals, IsWidePlan}

abbrev pub IsWide : Expression → Type 0
IsWide tree = has_wide_horizontals tree ≡ true

abbrev pub AllWide : Trees Op → Type 0
AllWide trees = have_wide_horizontals trees ≡ true

and_true : (b : Bool) → (b && true) ≡ b
and_true true = refl
and_true false = refl

and_apart : (a b c : Bool) → ((a && (b && true)) && c) ≡ (a && (b && c))
and_apart true true c = refl
and_apart true false c = refl
and_apart false b c = refl

-- ---- as a lowered plan takes an expression

-- a chain is wide where its operands are
chain_wide : (operator : Operator) (tree : Expression) (trees : Trees Op) → has_wide_horizontals (chain operator tree trees) ≡ (has_wide_horizontals tree && have_wide_horizontals trees)
chain_wide operator tree no_more = sym (and_true (has_wide_horizontals tree))
chain_wide operator tree (more next rest) =
    chain_wide operator (node (BinaryOp operator) (more tree (more next no_more))) rest ∙ and_apart (has_wide_horizontals tree) (has_wide_horizontals next) (have_wide_horizontals rest)

chained_wide : (operator : Operator) (nothing : Bool) (trees : Trees Op) → has_wide_horizontals (chained operator nothing trees) ≡ have_wide_horizontals trees
chained_wide operator nothing no_more = refl
chained_wide operator nothing (more tree no_more) = refl
chained_wide operator nothing (more tree (more next rest)) = chain_wide operator tree (more next rest)

-- and so is a function, which is written out, or no horizontal over few operands
pub function_wide : (function : FunctionExpr) (out : Bool) (labels : List Label) (children : Trees Op) → is_written_out true (FunctionOp function []) (tree_count children) ≡ out → has_wide_horizontals (put_together false out (FunctionOp function []) labels children) ≡ have_wide_horizontals children
function_wide AllHorizontal true labels children out = chained_wide LogicalAnd true children
function_wide AnyHorizontal true labels children out = chained_wide LogicalOr false children
function_wide _ true labels children out = cc
function_wide function false labels children out = ap (λ b. not b && have_wide_horizontals children) out

pub pruned_many : (keep write : Bool) (trees : Trees Op) → tree_count (all_pruned keep write trees) ≡ tree_count trees
pruned_many keep write no_more = refl
pruned_many keep write (more tree trees) = ap suc (pruned_many keep write trees)

mutual
  spelled_wide : (tree : Expression) → HasNone tree → IsWide (spelled tree)
  spelled_wide (node (AliasOp name) (more tree no_more)) h = spelled_wide tree h.1.0
  spelled_wide (node (FunctionOp function []) children) h =
      let us = all_pruned false true children in
      function_wide function (is_written_out true (FunctionOp function []) (tree_count children)) (fold_all op_label children) us (ap (is_written_out true (FunctionOp function [])) (pruned_many false true children)) ∙ all_spelled_wide children h.1
  spelled_wide (node (FunctionOp function (label ∷ recorded)) children) h = absurd h.0
  spelled_wide (node op children) h = all_spelled_wide children h.1

  all_spelled_wide : (trees : Trees Op) → AllHaveNone trees → AllWide (all_pruned false true trees)
  all_spelled_wide no_more h = refl
  all_spelled_wide (more tree trees) h = and_from (has_wide_horizontals (spelled tree)) (have_wide_horizontals (all_pruned false true trees)) (spelled_wide tree h.0) (all_spelled_wide trees h.1)

-- a number at the top that gets a type changes nothing of it
settled_wide : (tree : Expression) → has_wide_horizontals (settled tree) ≡ has_wide_horizontals tree
settled_wide (node (AliasOp name) (more tree no_more)) = ap (λ b. b && true) (settled_wide tree)
settled_wide (node op children) = refl

pub plan_wide : (expr : Expr) → IsWide (settled (spelled (plain_tree expr)))
plan_wide expr = settled_wide (spelled (plain_tree expr)) ∙ spelled_wide (plain_tree expr) (expr_none expr)

-- ---- casts that are written out

number_wide : (number : ℤ) (target : Ty) → IsWide (number_as number target)
number_wide number target =
    elim (integer_has target number) as (λ b. IsWide (cond b (number_literal target number) (cast_to target (number_literal (settled_type (Untyped number)) number)))) [ true ↦ refl | false ↦ refl ]

renamed_wide : (tree other : Expression) → has_wide_horizontals (renamed tree other) ≡ has_wide_horizontals other
renamed_wide (node (AliasOp name) (more tree no_more)) other = ap (λ b. b && true) (renamed_wide tree other) ∙ and_true (has_wide_horizontals other)
renamed_wide (node op children) other = refl

module _ (registry : Registry) (schema : Columns) where
  -- what is made of an operand is wide where that is
  changed_wide : (from target : Ty) (tree : Expression) (many : Bool) → typing registry schema tree ≡ Ok (record { type = from; many = many }) → has_wide_horizontals (changed from target tree) ≡ has_wide_horizontals tree
  changed_wide (Untyped number) target tree many h =
      renamed_wide tree (number_as number target) ∙ number_wide number target
      ∙ sym (ap has_wide_horizontals (untyped_is_number registry schema number tree many h).tree_is ∙ renamed_wide tree (untyped number))
  changed_wide from target tree many h = and_true (has_wide_horizontals tree)

  operand_wide : (from target : Ty) (tree : Expression) (many : Bool) → typing registry schema tree ≡ Ok (record { type = from; many = many }) → has_wide_horizontals (as_operand from target tree) ≡ has_wide_horizontals tree
  operand_wide from target tree many h =
      elim (same_type from target) as (λ b. has_wide_horizontals (cond b tree (changed from target tree)) ≡ has_wide_horizontals tree) [ true ↦ refl | false ↦ changed_wide from target tree many h ]

  -- as many operands, which are wide where those are
  record AreAlike (before after : Trees Op) : Type 0 where
    pub many : tree_count after ≡ tree_count before
    pub wide : have_wide_horizontals after ≡ have_wide_horizontals before

  operands_alike : (own : Ty) (trees : Trees Op) (typed : List Typed) (targets : List Ty) → typing_all registry schema trees ≡ Ok typed → AllBecome own (types_of typed) targets → AreAlike trees (as_operands (types_of typed) targets trees)
  operands_alike own no_more typed targets h b =
      by_no_children (λ ts. AllBecome own (types_of ts) targets → AreAlike no_more (as_operands (types_of ts) targets no_more)) typed h (λ none. record { many = refl; wide = refl }) b
  operands_alike own (more tree trees) typed [] h b =
      by_children (λ ts. AllBecome own (types_of ts) [] → AreAlike (more tree trees) (as_operands (types_of ts) [] (more tree trees))) _ _ typed h (λ t ts first rest none. absurd none) b
  operands_alike own (more tree trees) typed (target ∷ targets) h b =
      by_children (λ ts. AllBecome own (types_of ts) (target ∷ targets) → AreAlike (more tree trees) (as_operands (types_of ts) (target ∷ targets) (more tree trees))) _ _ typed h (λ t ts first rest become.
      let below = operands_alike own trees ts targets rest become.1 in
      record { many = ap suc below.many; wide = λ i. operand_wide t.type target tree t.many first i && below.wide i }) b

  coerced_many : (trees : Trees Op) → tree_count (coerced_all registry schema trees) ≡ tree_count trees
  coerced_many no_more = refl
  coerced_many (more tree trees) = ap suc (coerced_many trees)

  mutual
    coerced_wide : (tree : Expression) (typed : Typed) → typing registry schema tree ≡ Ok typed → has_wide_horizontals (coerced registry schema tree) ≡ has_wide_horizontals tree
    coerced_wide (node op ts) typed h =
        let p = typed_parts registry schema op ts typed h in
        let us = coerced_all registry schema ts in
        let there = typings_same registry schema ts us (all_coerced_same registry schema ts p.below p.children_typed) ∙ p.children_typed in
        let alike = operands_alike p.ruling.own.type us p.below p.ruling.operands there (keeps_rule registry schema op p.below p.ruling p.rules).becomes in
        ap (λ os. has_wide_horizontals (node op os)) (fitted_typed registry schema op ts us p.below p.ruling p.children_typed p.rules)
        ∙ (λ i. is_wide op ((alike.many ∙ coerced_many ts) i) && (alike.wide ∙ all_coerced_wide ts p.below p.children_typed) i)

    all_coerced_wide : (trees : Trees Op) (typed : List Typed) → typing_all registry schema trees ≡ Ok typed → have_wide_horizontals (coerced_all registry schema trees) ≡ have_wide_horizontals trees
    all_coerced_wide no_more typed h = refl
    all_coerced_wide (more tree trees) typed h =
        by_children (λ _. have_wide_horizontals (coerced_all registry schema (more tree trees)) ≡ have_wide_horizontals (more tree trees)) _ _ typed h (λ t ts first rest. λ i. coerced_wide tree t first i && all_coerced_wide trees ts rest i)

-- ---- casts that go

cast_wide : (target : Ty) (options : CastOptions) (x e : Expression) → cast_of target options x ≡ Some e → has_wide_horizontals e ≡ has_wide_horizontals x
cast_wide target options (node (LiteralOp from value) no_more) e h = ap has_wide_horizontals (gives_literal from value target options e h).is
cast_wide target options (node (BinaryOp operator) operands) e h =
    ap has_wide_horizontals (some_where (is_logical operator && same_type Truth target) (node (BinaryOp operator) operands) e h).1
cast_wide target options (node op operands) e h = cc

placed_wide : (op : Op) (us : Trees Op) (found : Option Expression) → in_place_of op us ≡ found → has_wide_horizontals (unwrap_or found (node op us)) ≡ has_wide_horizontals (node op us)
placed_wide op us None is = refl
placed_wide (CastOp target options) (more x no_more) (Some e) is = cast_wide target options x e is ∙ sym (and_true (has_wide_horizontals x))
placed_wide op us (Some e) is = cc

inlined_many : (trees : Trees Op) → tree_count (all_inlined trees) ≡ tree_count trees
inlined_many no_more = refl
inlined_many (more tree trees) = ap suc (inlined_many trees)

mutual
  inlined_wide : (tree : Expression) → has_wide_horizontals (inlined tree) ≡ has_wide_horizontals tree
  inlined_wide (node op ts) = placed_wide op (all_inlined ts) (in_place_of op (all_inlined ts)) refl ∙ (λ i. is_wide op (inlined_many ts i) && all_inlined_wide ts i)

  all_inlined_wide : (trees : Trees Op) → have_wide_horizontals (all_inlined trees) ≡ have_wide_horizontals trees
  all_inlined_wide no_more = refl
  all_inlined_wide (more tree trees) = λ i. inlined_wide tree i && all_inlined_wide trees i

module _ (registry : Registry) (schema : Columns) (tree : Expression) (typed : Typed) (h : typing registry schema tree ≡ Ok typed) where
  -- with both an expression is wide where it was
  written_alike : has_wide_horizontals (written_out registry schema tree) ≡ has_wide_horizontals tree
  written_alike = inlined_wide (coerced registry schema tree) ∙ coerced_wide registry schema tree typed h

  pub written_wide : IsWide tree → IsWide (written_out registry schema tree)
  written_wide wide = written_alike ∙ wide

  pub unwritten_wide : IsWide (written_out registry schema tree) → IsWide tree
  unwritten_wide wide = sym written_alike ∙ wide

-- ---- filters that are split

mutual
  parts_wide : (t : Expression) → IsWide t → AllByRecursion IsWide (conjuncts t)
  parts_wide (node op ts) h =
      elim (is_conjunction op) as (λ b. AllByRecursion IsWide (cond b (all_conjuncts ts) (node op ts ∷ []))) [ true ↦ all_parts_wide ts (and_parts (is_wide op (tree_count ts)) (have_wide_horizontals ts) h).1 | false ↦ (h, tt) ]

  all_parts_wide : (ts : Trees Op) → AllWide ts → AllByRecursion IsWide (all_conjuncts ts)
  all_parts_wide no_more h = tt
  all_parts_wide (more t ts) h =
      let both = and_parts (has_wide_horizontals t) (have_wide_horizontals ts) h in all_of_both IsWide (conjuncts t) (all_conjuncts ts) (parts_wide t both.0) (all_parts_wide ts both.1)

abbrev AreWideParts : List (Named Expression) → Type 0
AreWideParts parts = AllByRecursion (λ (part : Named Expression). IsWide part.expression) parts

own_wide : (trees : List Expression) → AllByRecursion IsWide trees → AreWideParts (map own_named trees)
own_wide [] each = tt
own_wide (t ∷ ts) each = (each.0, own_wide ts each.1)

pub split_wide : (predicate : Named Expression) → IsWide predicate.expression → AllByRecursion (λ (part : Named Expression). has_wide_horizontals part.expression ≡ true) (split_predicate predicate)
split_wide predicate wide =
    let tree = predicate.expression in
    elim (permits_pushdown tree) as (λ b. AreWideParts (cond b (map own_named (conjuncts tree)) (predicate ∷ []))) [ true ↦ own_wide (conjuncts tree) (parts_wide tree wide) | false ↦ (wide, tt) ]

-- filters by such predicates over a plan
pub filters_wide : (predicates : List (Named Expression)) (input : Plan) → AllByRecursion (λ (part : Named Expression). has_wide_horizontals part.expression ≡ true) predicates → IsWidePlan input → IsWidePlan (filters_over predicates input)
filters_wide [] input each wide = wide
filters_wide (p ∷ ps) input each wide = (((each.0, tt), tt), (filters_wide ps input each.1 wide, tt))
