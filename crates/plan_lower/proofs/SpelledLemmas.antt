-- Expressions with their horizontals written out, beside those that have them as nodes.
use Rattle.std.proofs.Common.{◌≡◌, ◌≤◌, ◌&&◌, suc, nat_lt, Bool, true, false, not, List, [], Ok, Err, refl, sym, ap, ◌∙◌, arith}
use Rattle.std.proofs.lemmas.Bool.{and_parts, false≢true, ltb-false, not-true}
use Rattle.plan_types.specs.Types.{Truth}
use Rattle.plan_types.specs.Errors.{IsRefusal, at_top, no_room, broken}
use Rattle.plan_types.specs.Frames.{Frame, IsFrame}
use Rattle.plan_types.specs.Schemas.{Columns}
use Rattle.plan_types.specs.declared.dtype.CastOptions.TheVariants.{NonStrict}
use Rattle.plan_types.specs.declared.error.ErrorKind.{ErrorKind}
use Rattle.plan_types.specs.declared.error.ErrorKind.TheVariants.{NoMemory}
use Rattle.plan_types.specs.declared.error.PlanError.{PlanError}
use Rattle.plan_dsl.specs.declared.function_expr.FunctionExpr.{FunctionExpr}
use Rattle.plan_dsl.specs.declared.function_expr.FunctionExpr.TheVariants.{AllHorizontal, AnyHorizontal}
use Rattle.plan_dsl.specs.declared.operator.Operator.{Operator}
use Rattle.plan_dsl.specs.declared.operator.Operator.TheVariants.{LogicalAnd, LogicalOr}
use Rattle.plan_dsl.specs.Aliases.{all_pruned, chained, core, is_written_out, put_together, spelled}
use Rattle.plan_dsl.specs.Functions.{is_horizontal}
use Rattle.plan_dsl.specs.HorizontalLaws.{horizontal_chain, horizontal_node}
use Rattle.plan_dsl.specs.Literals.{settled}
use Rattle.plan_dsl.specs.Meaning.{meaning}
use Rattle.plan_dsl.specs.Names.{Label, op_label}
use Rattle.plan_dsl.specs.Ops.{Op, AliasOp, BinaryOp, CastOp, Expression, FunctionOp}
use Rattle.plan_dsl.specs.Registry.{Registry}
use Rattle.plan_dsl.specs.Trees.{Trees, node, no_more, more, fold_all, tree_count}
use Rattle.plan_dsl.specs.Signatures.{least_horizontal}
use Rattle.plan_dsl.specs.Typing.{Typed, function_rule, own_typed, then_typed, typed_before, typing, typing_all, typing_rule}
use Rattle.plan_dsl.proofs.ChainLemmas.{its_chain}
use Rattle.plan_dsl.proofs.CoreLemmas.{spelled_same}
use Rattle.plan_lower.specs.Horizontals.{all_write_no_chain, is_chain, writes_no_chain}
use Rattle.plan_lower.proofs.HorizontalLemmas.{all_counted}

-- ---- as a plan takes an expression

module _ (registry : Registry) (schema : Columns) (tree : Expression) where
  -- it has a type written out where it has it otherwise
  pub typed_spelled : (typed : Typed) → typing registry schema (settled (core tree)) ≡ Ok typed → typing registry schema (settled (spelled tree)) ≡ Ok typed
  typed_spelled typed h =
      let here = spelled_same registry schema tree in
      ap (typing registry schema) here.settled_spelled ∙ (spelled_same registry schema (settled tree)).typed typed (sym (ap (typing registry schema) here.settled_core) ∙ h)

  -- and the other way round
  pub typed_core : (typed : Typed) → typing registry schema (settled (spelled tree)) ≡ Ok typed → typing registry schema (settled (core tree)) ≡ Ok typed
  typed_core typed h =
      let here = spelled_same registry schema tree in
      ap (typing registry schema) here.settled_core ∙ (spelled_same registry schema (settled tree)).typed_alone typed (sym (ap (typing registry schema) here.settled_spelled) ∙ h)

  -- and means the same on frames
  pub spelled_means : (frame : Frame) (typed : Typed) → IsFrame frame → frame.schema ≡ schema → typing registry schema (settled (core tree)) ≡ Ok typed → meaning registry frame (settled (spelled tree)) ≡ meaning registry frame (settled (core tree))
  spelled_means frame typed is of h =
      let here = spelled_same registry schema tree in
      ap (meaning registry frame) here.settled_spelled
      ∙ (spelled_same registry schema (settled tree)).meaning frame typed is of (sym (ap (typing registry schema) here.settled_core) ∙ h)
      ∙ sym (ap (meaning registry frame) here.settled_core)

  -- where it has no type written out, it has none otherwise
  pub untyped_core : (error : PlanError) → IsRefusal (typing registry schema (spelled tree)) error → ¬ (error.kind ≡ NoMemory) → (typed : Typed) → ¬ (typing registry schema (core tree) ≡ Ok typed)
  untyped_core error (no_room e) other typed h = other (ap (λ (x : PlanError). x.kind) e)
  untyped_core error (broken kind e told) other typed h =
      let there = (spelled_same registry schema tree).typed typed h in
      cc

  -- and where memory ran out, that is told in place of any reason
  pub memory_core : (error : PlanError) → IsRefusal (typing registry schema (spelled tree)) error → error.kind ≡ NoMemory → IsRefusal (typing registry schema (core tree)) error
  memory_core error (no_room e) memory = no_room e
  memory_core error (broken kind e told) memory =
      no_room (e ∙ ap at_top (sym (ap (λ (x : PlanError). x.kind) e) ∙ memory))

-- ---- expressions in which no horizontal is written out by several operators

module _ (registry : Registry) (schema : Columns) where
  -- a node over operands that aren't all typed is refused as any other is over them
  same_below : (op own : Op) (operands : Trees Op) (kind : ErrorKind) → typing_all registry schema operands ≡ Err kind → typing registry schema (node op operands) ≡ typing registry schema (node own operands)
  same_below op own operands kind none =
      ap (λ r. then_typed r (typing_rule registry schema op)) none ∙ sym (ap (λ r. then_typed r (typing_rule registry schema own)) none)

  few_untyped : (operator : Operator) (nothing : Bool) (own : Op) (operands : Trees Op) (kind : ErrorKind) → nat_lt 2 (tree_count operands) ≡ false → typing_all registry schema operands ≡ Err kind → typing registry schema (chained operator nothing operands) ≡ typing registry schema (node own operands)
  few_untyped operator nothing own no_more kind few none = absurd cc
  few_untyped operator nothing own (more tree no_more) kind few none = same_below (CastOp Truth NonStrict) own (more tree no_more) kind none
  few_untyped operator nothing own (more tree (more next no_more)) kind few none = same_below (BinaryOp operator) own (more tree (more next no_more)) kind none
  few_untyped operator nothing own (more tree (more next (more last rest))) kind few none =
      let least : suc (suc (suc (tree_count rest))) ≤ 2 = ltb-false 2 (suc (suc (suc (tree_count rest)))) few in
      absurd (omega (arith, least))

  chain_untyped : (function : FunctionExpr) (operands : Trees Op) (kind : ErrorKind) → is_horizontal function ≡ true → nat_lt 2 (tree_count operands) ≡ false → typing_all registry schema operands ≡ Err kind → typing registry schema (horizontal_chain function operands) ≡ typing registry schema (horizontal_node function operands)
  chain_untyped AllHorizontal operands kind is few none = few_untyped LogicalAnd true (FunctionOp AllHorizontal []) operands kind few none
  chain_untyped AnyHorizontal operands kind is few none = few_untyped LogicalOr false (FunctionOp AnyHorizontal []) operands kind few none
  chain_untyped _ operands kind is few none = absurd (false≢true is)

  -- a horizontal over two operands or fewer is refused as what is written out for it
  few_alike : (function : FunctionExpr) (operands : Trees Op) → is_horizontal function ≡ true → nat_lt 2 (tree_count operands) ≡ false → typing registry schema (horizontal_chain function operands) ≡ typing registry schema (horizontal_node function operands)
  few_alike function operands is few =
      elim (typing_all registry schema operands) as (λ r. typing_all registry schema operands ≡ r → typing registry schema (horizontal_chain function operands) ≡ typing registry schema (horizontal_node function operands)) [
        | Ok below ↦ λ there. (its_chain registry schema function operands is).refused below there
        | Err kind ↦ λ none. chain_untyped function operands kind is few none
      ] refl

  function_alike : (function : FunctionExpr) (labels : List Label) (children : Trees Op) (out : Bool) → is_written_out true (FunctionOp function []) (tree_count children) ≡ out → is_chain (FunctionOp function []) (tree_count children) ≡ false → typing_all registry schema (all_pruned false true children) ≡ typing_all registry schema (all_pruned false false children)
      → typing registry schema (put_together false out (FunctionOp function []) labels (all_pruned false true children)) ≡ typing registry schema (put_together false false (FunctionOp function []) labels (all_pruned false false children))
  function_alike function labels children false is few alike = ap (λ r. then_typed r (λ typed. own_typed (function_rule function typed))) alike
  function_alike function labels children true is few alike =
      let horizontal = (and_parts (is_horizontal function) (nat_lt (tree_count children) least_horizontal) is).0 in
      let own = ap (nat_lt 2) (all_counted false true children) ∙ ap (λ b. b && nat_lt 2 (tree_count children)) (sym is) ∙ few in
      few_alike function (all_pruned false true children) horizontal own ∙ ap (λ r. then_typed r (λ typed. own_typed (function_rule function typed))) alike

  -- are refused, or typed, as with horizontals as nodes
  mutual
    pub told_alike : (tree : Expression) → writes_no_chain tree ≡ true → typing registry schema (spelled tree) ≡ typing registry schema (core tree)
    told_alike (node (AliasOp name) (more tree no_more)) h = told_alike tree (and_parts (writes_no_chain tree) true h).0
    told_alike (node (FunctionOp function []) children) h =
        let parts = and_parts (not (is_chain (FunctionOp function []) (tree_count children))) (all_write_no_chain children) h in
        function_alike function (fold_all op_label children) children (is_written_out true (FunctionOp function []) (tree_count children)) refl (not-true _ parts.0) (all_told_alike children parts.1)
    told_alike (node op children) h =
        let parts = and_parts (not (is_chain op (tree_count children))) (all_write_no_chain children) h in
        ap (λ r. then_typed r (typing_rule registry schema op)) (all_told_alike children parts.1)

    all_told_alike : (trees : Trees Op) → all_write_no_chain trees ≡ true → typing_all registry schema (all_pruned false true trees) ≡ typing_all registry schema (all_pruned false false trees)
    all_told_alike no_more h = refl
    all_told_alike (more tree rest) h =
        let parts = and_parts (writes_no_chain tree) (all_write_no_chain rest) h in
        λ i. typed_before (told_alike tree parts.0 i) (all_told_alike rest parts.1 i)
