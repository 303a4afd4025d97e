use Rattle.std.proofs.Common.{◌≡◌, true, false, [], ◌∷◌, map, inl, inr, refl, sym, ap, ◌∙◌, arith}
use Rattle.plan_types.specs.Types.{Truth, same_type, ty}
use Rattle.plan_types.specs.declared.dtype.DataType.TheVariants as dtype
use Rattle.plan_dsl.specs.Ops.{TernaryOp}
use Rattle.plan_dsl.specs.Typing.{Ruling, Typed, rule}
use Rattle.plan_dsl.proofs.TypingLemmas.{ok_same}
use Rattle.plan_infer.specs.KeptTypes.{AllKept, KeepsEntry}
use Rattle.plan_infer.specs.Samples.{int8, int32, of_one, of_type}
use Rattle.plan_infer.proofs.ExampleLemmas.{says}
use Rattle.plan_infer.proofs.TableLemmas.{kept_one}
use Rattle.plan_infer.proofs.examples.functions.types_of_ternaries.Goals as goal

pub returns-clause-kept : goal.returns-clause-kept
returns-clause-kept c = λ own n d m o. record {
  ruling = record { operands = int32 ∷ Truth ∷ int32 ∷ []; own = of_type int32 };
  rules = refl;
  is = says own dtype.Int32 true d m;
  operands = inl (ap (map ty) o);
}

pub returns-clause-as_they_are : goal.returns-clause-as_they_are
returns-clause-as_they_are c = λ own n d m o. record {
  ruling = record { operands = int8 ∷ Truth ∷ int8 ∷ []; own = of_one int8 };
  rules = refl;
  is = says own dtype.Int8 false d m;
  operands = inr (ap (map ty) o, refl);
}

pub returns-clause-otherwise_kept : goal.returns-clause-otherwise_kept
returns-clause-otherwise_kept c = λ own n d m o found.
    let ruled : Ruling = record { operands = int32 ∷ Truth ∷ int32 ∷ []; own = of_type int32 } in
    let one = ok_same _ found.ruling ruled found.rules refl in
    let types = ap (λ (t : Typed). t.type) (sym (ap (λ (r : Ruling). r.own) one) ∙ found.is) ∙ ap ty d in
    let differs : true ≡ false = ap (same_type int32) types in
    cc

pub returns-clause-node : goal.returns-clause-node
returns-clause-node c = λ truthy tn td tm to predicate pn pd pm po falsy fn fd fm fo table first entries typed ruling kept rules.
    let keeps_truthy : KeepsEntry table 0 truthy = rw (first, entries) (omega arith, refl) in
    let keeps_predicate : KeepsEntry table 1 predicate = rw (first, entries) (omega arith, refl) in
    let keeps_falsy : KeepsEntry table 2 falsy = rw (first, entries) (omega arith, refl) in
    let are : AllKept table (0 ∷ 1 ∷ 2 ∷ []) (of_type int8 ∷ of_type Truth ∷ of_type int32 ∷ []) = (record { own = truthy; keeps = keeps_truthy; is = sym (says truthy dtype.Int8 true td tm) }, (record { own = predicate; keeps = keeps_predicate; is = sym (says predicate dtype.Boolean true pd pm) }, (record { own = falsy; keeps = keeps_falsy; is = sym (says falsy dtype.Int32 true fd fm) }, tt))) in
    let is = ap (rule [] [] TernaryOp) (kept_one table (0 ∷ 1 ∷ 2 ∷ []) (of_type int8 ∷ of_type Truth ∷ of_type int32 ∷ []) typed are kept) ∙ rules in
    let ruled : Ruling = record { operands = int32 ∷ Truth ∷ int32 ∷ []; own = of_type int32 } in
    ap (λ (r : Ruling). r.operands) (ok_same _ ruling ruled is refl)
