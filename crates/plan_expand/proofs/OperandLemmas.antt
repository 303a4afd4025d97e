-- Operands in place of which others are put.
use Rattle.std.proofs.Common.{◌≡◌, ◌<◌, ℕ, zero, suc, List, [], ◌∷◌, map, length, set, slice_get, slice_set, Some, refl, sym, ap, ◌∙◌, subst}
use Rattle.plan_dsl.specs.Expressions.{tree_of}
use Rattle.plan_dsl.specs.Sources.{Source, SourceOp, Plain}
use Rattle.plan_dsl.specs.Trees.{node, children_from, top_op}
use Rattle.plan_dsl.specs.Ops.{Op}
use Rattle.plan_dsl.specs.declared.expr.Expr.{Expr}
use Rattle.plan_dsl.proofs.ExprLemmas.{IsListed, IsOfEach}
use Rattle.std.specs.Prelude.{unwrap_or}
use Rattle.plan_expand.specs.Walks.{operand_list, operands_in, over}

-- what an item in place of one shows
pub set_shown : (items : List Expr) (place : ℕ) (item other : Expr) → item ≡ other → map tree_of (set items place item) ≡ slice_set (map tree_of items) place (tree_of other)
set_shown [] place item other is = refl
set_shown (own ∷ items) zero item other is = ap (λ x. tree_of x ∷ map tree_of items) is
set_shown (own ∷ items) (suc place) item other is = ap (λ l. tree_of own ∷ l) (set_shown items place item other is)

-- operands that are a list: what is asked of them, and what is put there
module _ (tree : Source) (operands : List Source) (are : Some operands ≡ operands_in tree) (place : ℕ) where
  listed : operand_list tree ≡ operands
  listed = ap (λ o. unwrap_or o []) (sym are)

  pub place_within : place < length (operand_list tree) → place < length operands
  place_within within = subst (λ l. place < length l) listed within

  pub taken_out : (other : Source) → Some other ≡ slice_get operands place → Some other ≡ slice_get (operand_list tree) place
  taken_out other is = is ∙ ap (λ l. slice_get l place) (sym listed)

  pub put_listed : {made : Source} {op own : Op} {first : Source} {rest : List Source} (other : Source) → IsListed made (Plain own) first rest → top_op tree ≡ Plain op → own ≡ op → first ∷ rest ≡ slice_set operands place other → made ≡ over tree (slice_set (operand_list tree) place other)
  put_listed other written top same put =
      written.is ∙ (λ i. node (Plain (same i)) (children_from (put i))) ∙ (λ i. node (sym top i) (children_from (slice_set (sym listed i) place other)))

  pub put_of_each : {made : Source} {own : SourceOp} {each : List Source} (other : Source) → IsOfEach made own each → top_op tree ≡ own → each ≡ slice_set operands place other → made ≡ over tree (slice_set (operand_list tree) place other)
  put_of_each other written top put =
      written.is ∙ (λ i. node (sym top i) (children_from (put i))) ∙ (λ i. node (top_op tree) (children_from (slice_set (sym listed i) place other)))
