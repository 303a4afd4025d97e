-- Laws of comparing and hashing expressions and selectors, and their parts.
use Rattle.std.specs.Prelude.{◌≡◌, true}
use Rattle.std.specs.Cmp.{IsEquivalence}
use Rattle.std.specs.Ordering.{on}
use Rattle.std.proofs.Common.{ap}
use Rattle.std.proofs.lemmas.Cmp.{on_equiv}
use Rattle.plan_types.specs.TypeLaws.{equivalence_from_exact}
use Rattle.plan_dsl.specs.declared.aggregate.AggExpr.{AggExpr}
use Rattle.plan_dsl.specs.declared.expr.Expr.{Expr}
use Rattle.plan_dsl.specs.declared.function_expr.FunctionExpr.{FunctionExpr}
use Rattle.plan_dsl.specs.declared.marker.Excluded.{Excluded}
use Rattle.plan_dsl.specs.declared.marker.RenameAliasFn.{RenameAliasFn}
use Rattle.plan_dsl.specs.declared.selector.Selector.{Selector}
use Rattle.plan_dsl.specs.ExpressionLaws.{same_function_exact, same_function_own}
use Rattle.plan_dsl.specs.Functions.{function_writes, same_function}
use Rattle.plan_dsl.specs.Expressions.{excluded_of, renaming_of, tree_of, agg_tree, selector_tree}
use Rattle.plan_dsl.specs.Sources.{same_excluded, same_renaming, same_source, excluded_writes, renaming_writes, source_writes}
use Rattle.plan_dsl.specs.SourceLaws.{same_excluded_exact, same_excluded_own, same_renaming_exact, same_renaming_own, same_source_exact, same_source_own}

pub same_expression_is_equivalence : IsEquivalence (on tree_of same_source)
same_expression_is_equivalence = on_equiv tree_of (equivalence_from_exact same_source same_source_exact same_source_own)

-- equal expressions are hashed alike
pub same_expression_hash : (a b : Expr) → same_source (tree_of a) (tree_of b) ≡ true → source_writes (tree_of a) ≡ source_writes (tree_of b)
same_expression_hash a b h = ap source_writes (same_source_exact (tree_of a) (tree_of b) h)

-- equality of aggregates, of which equal ones are hashed alike
pub same_aggregate_is_equivalence : IsEquivalence (on agg_tree same_source)
same_aggregate_is_equivalence = on_equiv agg_tree (equivalence_from_exact same_source same_source_exact same_source_own)

pub same_aggregate_hash : (a b : AggExpr) → same_source (agg_tree a) (agg_tree b) ≡ true → source_writes (agg_tree a) ≡ source_writes (agg_tree b)
same_aggregate_hash a b h = ap source_writes (same_source_exact (agg_tree a) (agg_tree b) h)

-- of selectors
pub same_selector_is_equivalence : IsEquivalence (on selector_tree same_source)
same_selector_is_equivalence = on_equiv selector_tree (equivalence_from_exact same_source same_source_exact same_source_own)

pub same_selector_hash : (a b : Selector) → same_source (selector_tree a) (selector_tree b) ≡ true → source_writes (selector_tree a) ≡ source_writes (selector_tree b)
same_selector_hash a b h = ap source_writes (same_source_exact (selector_tree a) (selector_tree b) h)

-- of what an exclude leaves out
pub same_excluded_is_equivalence : IsEquivalence (on excluded_of same_excluded)
same_excluded_is_equivalence = on_equiv excluded_of (equivalence_from_exact same_excluded same_excluded_exact same_excluded_own)

pub same_excluded_hash : (a b : Excluded) → same_excluded (excluded_of a) (excluded_of b) ≡ true → excluded_writes (excluded_of a) ≡ excluded_writes (excluded_of b)
same_excluded_hash a b h = ap excluded_writes (same_excluded_exact (excluded_of a) (excluded_of b) h)

-- of functions
pub same_function_is_equivalence : IsEquivalence same_function
same_function_is_equivalence = equivalence_from_exact same_function same_function_exact same_function_own

pub same_function_hash : (a b : FunctionExpr) → same_function a b ≡ true → function_writes a ≡ function_writes b
same_function_hash a b h = ap function_writes (same_function_exact a b h)

-- and of renaming forms
pub same_renaming_is_equivalence : IsEquivalence (on renaming_of same_renaming)
same_renaming_is_equivalence = on_equiv renaming_of (equivalence_from_exact same_renaming same_renaming_exact same_renaming_own)

pub same_renaming_hash : (a b : RenameAliasFn) → same_renaming (renaming_of a) (renaming_of b) ≡ true → renaming_writes (renaming_of a) ≡ renaming_writes (renaming_of b)
same_renaming_hash a b h = ap renaming_writes (same_renaming_exact (renaming_of a) (renaming_of b) h)
