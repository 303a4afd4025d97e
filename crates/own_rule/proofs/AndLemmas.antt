-- LogicalAnd of two operands of truth values, and And in its place.
use Rattle.std.proofs.Common.{◌≡◌, ℕ, pos, Bool, true, false, not, List, [], ◌∷◌, length, Some, None, Result, Ok, Err, refl, sym, ap, ◌∙◌, subst}
use Rattle.std.specs.Prelude.{◌&&◌, int_lt}
use Rattle.std.proofs.lemmas.Bool.{and_parts}
use Rattle.plan_types.specs.Types.{Ty, Truth, is_known, is_truth}
use Rattle.plan_types.specs.Frames.{Frame}
use Rattle.plan_types.specs.Outcomes.{Outcome, Done, Fault, Stuck, Meets, then_do}
use Rattle.plan_types.specs.Schemas.{Columns}
use Rattle.plan_types.specs.Values.{Val, IntValue, all_fit, fits}
use Rattle.plan_types.specs.declared.dtype.CastOptions.TheVariants.{NonStrict}
use Rattle.plan_types.specs.declared.error.ErrorKind.{ErrorKind}
use Rattle.plan_dsl.specs.declared.operator.Operator.TheVariants.{And, LogicalAnd}
use Rattle.plan_dsl.specs.Kernels.{at_each, cast_meaning, given, kernel, operator_values}
use Rattle.plan_dsl.specs.Laws.{AreOf}
use Rattle.plan_dsl.specs.Meaning.{meaning, node_meaning}
use Rattle.plan_dsl.specs.Operators.{operator_value}
use Rattle.plan_dsl.specs.Ops.{Op, BinaryOp, Expression}
use Rattle.plan_dsl.specs.Registry.{Registry}
use Rattle.plan_dsl.specs.Rows.{at_length, common_length, stretched}
use Rattle.plan_dsl.specs.Trees.{Trees, node, no_more, more}
use Rattle.plan_dsl.specs.Typing.{Ruling, Typed, then_typed, typed_before, typing, typing_all, typing_rule}
use Rattle.plan_dsl.proofs.CastMeaningLemmas.{cast_own}
use Rattle.plan_dsl.proofs.ColumnLemmas.{stretched_fits}
use Rattle.plan_dsl.proofs.FitLemmas.{meaning_has_type}
use Rattle.plan_coerce.specs.Rules.{IsSameOnFrames}
use Rattle.own_rule.specs.OpChanges.{IsChanged}
use Rattle.own_rule.specs.PlainAnds.{are_truths, is_logical_and, is_of_truths, plain_op}

-- ---- both give the same of values of truth

never : (b : Bool) → (not b && b) ≡ true → ⊥
never true h = cc
never false h = cc

values_alike : (left right : Val) → fits left Truth ≡ true → operator_value And Truth Truth left right ≡ operator_value LogicalAnd Truth Truth left right
values_alike (IntValue number) right h = absurd (never (int_lt number (pos 0)) h)
values_alike left right h = refl

each_alike : (xs ys : List Val) → all_fit xs Truth ≡ true → at_each (operator_value And Truth Truth) xs ys ≡ at_each (operator_value LogicalAnd Truth Truth) xs ys
each_alike [] ys h = refl
each_alike (x ∷ xs) [] h = refl
each_alike (x ∷ xs) (y ∷ ys) h =
    let parts = and_parts (fits x Truth) (all_fit xs Truth) h in
    ap (λ v. v ∷ at_each (operator_value And Truth Truth) xs ys) (values_alike x y parts.0) ∙ ap (λ vs. operator_value LogicalAnd Truth Truth x y ∷ vs) (each_alike xs ys parts.1)

columns_alike : (xs ys : List Val) → all_fit xs Truth ≡ true → operator_values And Truth Truth xs ys ≡ operator_values LogicalAnd Truth Truth xs ys
columns_alike xs ys h =
    elim (common_length (length xs) (length ys)) as (λ o. at_length o (λ count. at_each (operator_value And Truth Truth) (stretched count xs) (stretched count ys)) ≡ at_length o (λ count. at_each (operator_value LogicalAnd Truth Truth) (stretched count xs) (stretched count ys))) [
      | None ↦ refl
      | Some count ↦ ap Done (each_alike (stretched count xs) (stretched count ys) (stretched_fits count xs Truth h))
    ]

module _ (registry : Registry) (schema : Columns) (a b : Expression) (m n : Bool) (left : typing registry schema a ≡ Ok (record { type = Truth; many = m })) (right : typing registry schema b ≡ Ok (record { type = Truth; many = n })) where
  abbrev operands : Trees Op
  operands = more a (more b no_more)

  abbrev truths : List Typed
  truths = record { type = Truth; many = m } ∷ record { type = Truth; many = n } ∷ []

  typed_so : typing_all registry schema operands ≡ Ok truths
  typed_so = ap (λ r. typed_before r (typing_all registry schema (more b no_more))) left ∙ ap (λ r. typed_before (Ok (record { type = Truth; many = m })) (typed_before r (Ok []))) right

  -- of what two operands give
  given_alike : (frame : Frame) (rows : List ℕ) (l r : Outcome (List Val)) → Meets (AreOf (record { type = Truth; many = m })) l → then_do (given ((λ rows. l) ∷ (λ rows. r) ∷ []) rows) (kernel registry frame rows (BinaryOp And) (Truth ∷ Truth ∷ []) Truth) ≡ then_do (given ((λ rows. l) ∷ (λ rows. r) ∷ []) rows) (kernel registry frame rows (BinaryOp LogicalAnd) (Truth ∷ Truth ∷ []) Truth)
  given_alike frame rows (Done xs) (Done ys) h = columns_alike xs ys h.fitting
  given_alike frame rows (Done xs) Fault h = refl
  given_alike frame rows (Done xs) Stuck h = refl
  given_alike frame rows Fault r h = refl
  given_alike frame rows Stuck r h = refl

  pub and_same : IsSameOnFrames registry schema (node (BinaryOp LogicalAnd) operands) (node (BinaryOp And) operands)
  and_same = record {
    typing = ap (λ r. then_typed r (typing_rule registry schema (BinaryOp And))) typed_so ∙ sym (ap (λ r. then_typed r (typing_rule registry schema (BinaryOp LogicalAnd))) typed_so);
    name = refl;
    meaning = λ rows is numbers within i.
        (let frame : Frame = record { schema = schema; rows = rows } in
        let first = meaning registry frame a in
        let second = meaning registry frame b in
        let l = cast_meaning Truth Truth NonStrict first in
        let r = cast_meaning Truth Truth NonStrict second in
        let fitting = subst (λ f. Meets (AreOf (record { type = Truth; many = m })) (f numbers)) (sym (cast_own Truth first)) (meaning_has_type registry frame is a (record { type = Truth; many = m }) left numbers) in
        ap (λ t. node_meaning registry frame (BinaryOp And) t (first ∷ second ∷ []) numbers) typed_so
        ∙ given_alike frame numbers (l numbers) (r numbers) fitting
        ∙ sym (ap (λ t. node_meaning registry frame (BinaryOp LogicalAnd) t (first ∷ second ∷ []) numbers) typed_so)) i;
  }

-- ---- so it is to be the other

-- two children that are typed so, one by one
record AreTwo (registry : Registry) (schema : Columns) (ts : Trees Op) (first second : Typed) : Type 0 where
  a : Expression
  b : Expression
  are : ts ≡ more a (more b no_more)
  left : typing registry schema a ≡ Ok first
  right : typing registry schema b ≡ Ok second

typed_parts : (first : Result Typed ErrorKind) (rest : Result (List Typed) ErrorKind) (t : Typed) (ts : List Typed) → typed_before first rest ≡ Ok (t ∷ ts) → (first ≡ Ok t) × (rest ≡ Ok ts)
typed_parts (Err kind) rest t ts h = cc
typed_parts (Ok x) (Err kind) t ts h = cc
typed_parts (Ok x) (Ok xs) t ts h =
    let one : x ≡ t = cc in
    let others : xs ≡ ts = cc in
    (ap Ok one, ap Ok others)

some_typed : (first : Result Typed ErrorKind) (rest : Result (List Typed) ErrorKind) → typed_before first rest ≡ Ok [] → ⊥
some_typed (Err kind) rest h = cc
some_typed (Ok x) (Err kind) h = cc
some_typed (Ok x) (Ok xs) h = cc

module _ (registry : Registry) (schema : Columns) (first second : Typed) where
  are_two : (ts : Trees Op) → typing_all registry schema ts ≡ Ok (first ∷ second ∷ []) → AreTwo registry schema ts first second
  are_two no_more h = cc
  are_two (more a no_more) h =
      let parts = typed_parts (typing registry schema a) (Ok []) first (second ∷ []) h in
      let none : Ok [] ≡ Ok (second ∷ []) = parts.1 in
      cc
  are_two (more a (more b no_more)) h =
      let parts = typed_parts (typing registry schema a) (typing_all registry schema (more b no_more)) first (second ∷ []) h in
      let others = typed_parts (typing registry schema b) (Ok []) second [] parts.1 in
      record { a = a; b = b; are = refl; left = parts.0; right = others.0 }
  are_two (more a (more b (more c ts))) h =
      let parts = typed_parts (typing registry schema a) (typing_all registry schema (more b (more c ts))) first (second ∷ []) h in
      let others = typed_parts (typing registry schema b) (typing_all registry schema (more c ts)) second [] parts.1 in
      absurd (some_typed (typing registry schema c) (typing_all registry schema ts) others.1)

-- whether what a rule says is of a type of columns
abbrev known_of : Result Ruling ErrorKind → Bool
known_of (Err kind) = true
known_of (Ok ruling) = is_known ruling.own.type

and_changed : (m n : Bool) → IsChanged is_of_truths plain_op (BinaryOp LogicalAnd) (BinaryOp And) (record { type = Truth; many = m } ∷ record { type = Truth; many = n } ∷ [])
and_changed m n = record {
  found = refl;
  is = refl;
  stays = refl;
  again = refl;
  names = λ labels. refl;
  rules = λ registry schema. refl;
  known = λ registry schema ruling rules. ap known_of (sym rules);
  plain = λ ts. refl;
  same = λ registry schema ruling ts rules typed.
      let two = are_two registry schema (record { type = Truth; many = m }) (record { type = Truth; many = n }) ts typed in
      subst (λ us. IsSameOnFrames registry schema (node (BinaryOp LogicalAnd) us) (node (BinaryOp And) us)) (sym two.are) (and_same registry schema two.a two.b m n two.left two.right);
}

truth_is : (type : Ty) → is_truth type ≡ true → type ≡ Truth
truth_is Truth h = refl
truth_is type h = cc

pub truths_changed : (first second : Typed) → is_truth first.type ≡ true → is_truth second.type ≡ true → IsChanged is_of_truths plain_op (BinaryOp LogicalAnd) (BinaryOp And) (first ∷ second ∷ [])
truths_changed first second left right =
    let own = sym (truth_is first.type left) in
    let other = sym (truth_is second.type right) in
    subst (IsChanged is_of_truths plain_op (BinaryOp LogicalAnd) (BinaryOp And)) (λ i. record { type = own i; many = first.many } ∷ record { type = other i; many = second.many } ∷ []) (and_changed first.many second.many)

-- one of two is false
pub one_false : (a b : Bool) → b ≡ false → (a && b) ≡ false
one_false true b h = h
one_false false b h = refl

-- what is no LogicalAnd stays as it is
pub no_and : (op : Op) (typings : Result (List Typed) ErrorKind) → is_logical_and op ≡ false → is_of_truths op typings ≡ false
no_and op typings h = ap (λ b. b && are_truths typings) h
