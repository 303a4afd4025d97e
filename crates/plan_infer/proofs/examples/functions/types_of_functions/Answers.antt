use Rattle.std.proofs.Common.{◌∷◌, [], true, map, inl, refl, sym, ap, ◌∙◌, arith, subst}
use Rattle.plan_types.specs.Types.{Truth, ty}
use Rattle.plan_types.specs.declared.dtype.DataType.TheVariants as dtype
use Rattle.plan_dsl.specs.declared.function_expr.FunctionExpr.TheVariants.{FillNull}
use Rattle.plan_dsl.specs.Ops.{FunctionOp}
use Rattle.plan_dsl.specs.Typing.{Ruling, rule}
use Rattle.plan_dsl.proofs.TypingLemmas.{ok_same}
use Rattle.plan_arena.specs.Items.{numbers_named, recorded}
use Rattle.plan_infer.specs.KeptTypes.{AllKept, KeepsEntry}
use Rattle.plan_infer.specs.Samples.{int8, int32, of_type}
use Rattle.plan_infer.proofs.ExampleLemmas.{says}
use Rattle.plan_infer.proofs.TableLemmas.{kept_one}
use Rattle.plan_infer.proofs.examples.functions.types_of_functions.Goals as goal

pub returns-clause-kept : goal.returns-clause-kept
returns-clause-kept c = λ own n d m o. record {
  ruling = record { operands = int32 ∷ int32 ∷ []; own = of_type Truth };
  rules = refl;
  is = says own dtype.Boolean true d m;
  operands = inl (ap (map ty) o);
}

pub returns-clause-node : goal.returns-clause-node
returns-clause-node c = λ input items left ln ld lm lo right rn rd rm ro table first entries typed ruling kept rules.
    let keeps_left : KeepsEntry table 0 left = rw (first, entries) (omega arith, refl) in
    let keeps_right : KeepsEntry table 1 right = rw (first, entries) (omega arith, refl) in
    let all = of_type int8 ∷ of_type int32 ∷ [] in
    let are : AllKept table (0 ∷ 1 ∷ []) (of_type int8 ∷ of_type int32 ∷ []) = (record { own = left; keeps = keeps_left; is = sym (says left dtype.Int8 true ld lm) }, (record { own = right; keeps = keeps_right; is = sym (says right dtype.Int32 true rd rm) }, tt)) in
    let one = kept_one table (0 ∷ 1 ∷ []) (of_type int8 ∷ of_type int32 ∷ []) typed are (subst (λ es. AllKept table (numbers_named es) typed) items kept) in
    let is = ap (rule [] [] (FunctionOp FillNull (recorded input.items.items))) one ∙ rules in
    let ruled : Ruling = record { operands = int32 ∷ int32 ∷ []; own = of_type int32 } in
    ap (λ (r : Ruling). r.operands) (ok_same _ ruling ruled is refl)
