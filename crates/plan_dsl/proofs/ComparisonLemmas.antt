-- Comparisons: both operands are taken to their common type, and a truth value is given.
use Rattle.std.proofs.Common.{◌≡◌, sym, Bool, true, false, ◌&&◌, ◌||◌, cond, Some, Result, Ok, Err, IsTrue, refl, ap, ◌∙◌}
use Rattle.std.proofs.lemmas.Bool.{or_parts}
use Rattle.plan_types.specs.Types.{Ty, TextType, Truth, is_integer, is_known, is_temporal, is_text}
use Rattle.plan_types.specs.Values.{Val, NullValue, fits}
use Rattle.plan_types.specs.Supertypes.{supertype}
use Rattle.plan_types.specs.declared.error.ErrorKind.{ErrorKind}
use Rattle.plan_types.specs.declared.error.ErrorKind.TheVariants.{InvalidOperation}
use Rattle.plan_types.proofs.SupertypeLemmas.{supertype_itself, supertype_symmetric}
use Rattle.plan_dsl.specs.Operators.{compared}
use Rattle.plan_dsl.specs.OperatorTypes.{Taken, pair_to, both_to, is_text_beside, comparison_types, has_parts, order_types}
use Rattle.plan_dsl.proofs.TakingLemmas.{TakesPair, unless_so, both_is, common_becomes}

-- a test of two values that gives a truth value, or null
abbrev pub GivesTruth : (Val → Val → Val) → Type 0
GivesTruth value = (x y : Val) → IsTrue (fits (value x y) Truth)

pub compared_gives : (test : Val → Val → Bool) → GivesTruth (compared test)
compared_gives test NullValue right = refl
compared_gives test _ NullValue = refl
compared_gives test _ _ = refl

apart_text : (text integer temporal : Bool) → (text && (integer || temporal)) ≡ false → integer ≡ true → text ≡ false
apart_text true true temporal h i = cc
apart_text true false temporal h i = cc
apart_text false integer temporal h i = refl

not_beside_itself : (type : Ty) → is_text_beside type type ≡ false
not_beside_itself TextType = refl
not_beside_itself _ = refl

comparison_stays : (type : Ty) → comparison_types type type ≡ Ok (pair_to type type Truth)
comparison_stays type =
    ap (λ b. cond (b || b) (Err InvalidOperation) (both_to (supertype type type) (λ common. Truth))) (not_beside_itself type)
    ∙ ap (λ o. both_to o (λ common. Truth)) (supertype_itself type)

-- and so does an order, by a type without parts
order_stays : (type : Ty) → has_parts (Some type) ≡ false → order_types type type ≡ Ok (pair_to type type Truth)
order_stays type bare =
    ap (λ o. cond (has_parts o) (Err InvalidOperation) (comparison_types type type)) (supertype_itself type)
    ∙ ap (λ b. cond b (Err InvalidOperation) (comparison_types type type)) bare
    ∙ comparison_stays type

-- a table by which operands that are compared are taken, where those of their common type stay
compared_takes : (types : Ty → Ty → Result Taken ErrorKind) (value : Val → Val → Val) (a b : Ty) (taken : Taken) → GivesTruth value → is_known a ≡ true → is_known b ≡ true → comparison_types a b ≡ Ok taken → ((common : Ty) → supertype a b ≡ Some common → types common common ≡ Ok (pair_to common common Truth)) → TakesPair types (λ from type. value) a b taken
compared_takes types value a b taken gives k l h stays =
    let tested = unless_so (is_text_beside a b || is_text_beside b a) InvalidOperation _ taken h in
    let apart = or_parts (is_text_beside a b) (is_text_beside b a) tested.0 in
    let both = both_is (supertype a b) (λ common. Truth) taken tested.1 in
    record {
      left = both.0;
      right = both.0;
      type = Truth;
      is = both.2;
      left_becomes = common_becomes a b both.0 k l both.1 (apart_text (is_text b) (is_integer a) (is_temporal a) apart.1);
      right_becomes = common_becomes b a both.0 l k (supertype_symmetric b a ∙ both.1) (apart_text (is_text a) (is_integer b) (is_temporal b) apart.0);
      known = refl;
      stays = stays both.0 both.1;
      fitting = λ x y f g. gives x y;
    }

pub equal_takes : (value : Val → Val → Val) (a b : Ty) (taken : Taken) → GivesTruth value → is_known a ≡ true → is_known b ≡ true → comparison_types a b ≡ Ok taken → TakesPair comparison_types (λ from type. value) a b taken
equal_takes value a b taken gives k l h = compared_takes comparison_types value a b taken gives k l h (λ common e. comparison_stays common)

pub order_takes : (test : Val → Val → Bool) (a b : Ty) (taken : Taken) → is_known a ≡ true → is_known b ≡ true → order_types a b ≡ Ok taken → TakesPair order_types (λ from type. compared test) a b taken
order_takes test a b taken k l h =
    let tested = unless_so (has_parts (supertype a b)) InvalidOperation (comparison_types a b) taken h in
    compared_takes order_types (compared test) a b taken (compared_gives test) k l tested.1 (λ common e. order_stays common (sym (ap has_parts e) ∙ tested.0))
