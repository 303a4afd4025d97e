use Rattle.std.proofs.Common.{◌≡◌, true, false, [], ◌∷◌, map, inl, refl, sym, ap, ◌∙◌, arith}
use Rattle.plan_types.specs.Types.{NullType, same_type, ty}
use Rattle.plan_types.specs.declared.dtype.DataType.TheVariants as dtype
use Rattle.plan_dsl.specs.declared.operator.Operator.TheVariants.{Plus}
use Rattle.plan_dsl.specs.Ops.{BinaryOp}
use Rattle.plan_dsl.specs.Strictness.{same_types}
use Rattle.plan_dsl.specs.Typing.{Ruling, Typed, rule}
use Rattle.plan_dsl.proofs.TypingLemmas.{ok_same}
use Rattle.plan_infer.specs.KeptTypes.{AllKept, KeepsEntry, typed_of}
use Rattle.plan_infer.specs.Samples.{int8, int32, of_one, of_type}
use Rattle.plan_infer.proofs.ExampleLemmas.{says}
use Rattle.plan_infer.proofs.TableLemmas.{keeps_one, kept_one}
use Rattle.plan_infer.proofs.examples.types.typings_that_are_kept.Goals as goal

pub returns-clause-typed : goal.returns-clause-typed
returns-clause-typed c = λ own n d m o table first entries. record { own = own; keeps = rw (first, entries) (omega arith, refl); is = sym (says own dtype.Int8 true d m) }

pub returns-clause-otherwise : goal.returns-clause-otherwise
returns-clause-otherwise c = λ own n d m o table first entries found.
    let one = ap typed_of (keeps_one table 0 own found.own (rw (first, entries) (omega arith, refl)) found.keeps) ∙ found.is in
    let differs : true ≡ false = sym m ∙ ap (λ (t : Typed). t.many) one in
    cc

pub returns-clause-all : goal.returns-clause-all
returns-clause-all c = λ own n d m o table first entries. (
  record { own = own; keeps = rw (first, entries) (omega arith, refl); is = sym (says own dtype.Int8 true d m) },
  (record { own = own; keeps = rw (first, entries) (omega arith, refl); is = sym (says own dtype.Int8 true d m) }, tt),
)

pub returns-clause-too_few : goal.returns-clause-too_few
returns-clause-too_few c = λ table all. all

pub returns-clause-places : goal.returns-clause-places
returns-clause-places c = λ own n d m o table first entries. rw (first, entries) (ap (λ t. t ∷ of_one NullType ∷ of_one NullType ∷ []) (sym (says own dtype.Int8 true d m)))

pub returns-clause-first_name : goal.returns-clause-first_name
returns-clause-first_name c = λ own n d m o table first entries. rw (first, entries) n

pub returns-clause-ruled : goal.returns-clause-ruled
returns-clause-ruled c = λ own n d m o. record {
  ruling = record { operands = int32 ∷ int32 ∷ []; own = of_type int32 };
  rules = refl;
  is = says own dtype.Int32 true d m;
  operands = inl (ap (map ty) o);
}

pub returns-clause-otherwise_ruled : goal.returns-clause-otherwise_ruled
returns-clause-otherwise_ruled c = λ own n d m o found.
    let one : found.ruling ≡ record { operands = int32 ∷ int32 ∷ []; own = of_type int32 } = ok_same _ found.ruling (record { operands = int32 ∷ int32 ∷ []; own = of_type int32 }) found.rules refl in
    let types = ap (λ (t : Typed). t.type) (sym (ap (λ (r : Ruling). r.own) one) ∙ found.is) ∙ ap ty d in
    let differs : true ≡ false = ap (same_type int32) types in
    cc

pub returns-clause-taken : goal.returns-clause-taken
returns-clause-taken c = λ left ln ld lm lo right rn rd rm ro table first entries typed ruling kept rules.
    let keeps_left : KeepsEntry table 0 left = rw (first, entries) (omega arith, refl) in
    let keeps_right : KeepsEntry table 1 right = rw (first, entries) (omega arith, refl) in
    let are : AllKept table (0 ∷ 1 ∷ []) (of_type int8 ∷ of_type int32 ∷ []) = (record { own = left; keeps = keeps_left; is = sym (says left dtype.Int8 true ld lm) }, (record { own = right; keeps = keeps_right; is = sym (says right dtype.Int32 true rd rm) }, tt)) in
    let is = ap (rule [] [] (BinaryOp Plus)) (kept_one table (0 ∷ 1 ∷ []) (of_type int8 ∷ of_type int32 ∷ []) typed are kept) ∙ rules in
    let one : ruling ≡ record { operands = int32 ∷ int32 ∷ []; own = of_type int32 } = ok_same _ ruling (record { operands = int32 ∷ int32 ∷ []; own = of_type int32 }) is refl in
    ap (λ (r : Ruling). r.operands) one

pub returns-clause-otherwise_taken : goal.returns-clause-otherwise_taken
returns-clause-otherwise_taken c = λ left ln ld lm lo right rn rd rm ro table first entries takes.
    let keeps_left : KeepsEntry table 0 left = rw (first, entries) (omega arith, refl) in
    let keeps_right : KeepsEntry table 1 right = rw (first, entries) (omega arith, refl) in
    let are : AllKept table (0 ∷ 1 ∷ []) (of_type int8 ∷ of_type int32 ∷ []) = (record { own = left; keeps = keeps_left; is = sym (says left dtype.Int8 true ld lm) }, (record { own = right; keeps = keeps_right; is = sym (says right dtype.Int32 true rd rm) }, tt)) in
    let apart = takes (of_type int8 ∷ of_type int32 ∷ []) (record { operands = int32 ∷ int32 ∷ []; own = of_type int32 }) are refl in
    let differs : true ≡ false = ap (same_types (int32 ∷ int32 ∷ [])) apart in
    cc
