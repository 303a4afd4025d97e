use Rattle.std.proofs.Common.{◌≡◌, pos, true, false, Some, refl, sym, subst}
use Rattle.std.specs.Prelude.{ℕ}
use Rattle.plan_types.specs.Types.{Ty, Integer, DateType, Untyped, is_known}
use Rattle.plan_types.specs.Casts.{can_cast}
use Rattle.plan_types.specs.CommonTypes.{type_alone}
use Rattle.plan_dsl.specs.Strictness.{CanBecome}
use Rattle.plan_dsl.proofs.examples.literals.numbers_that_a_type_lacks.Goals as goal

cast_alone : (size : ℕ) (own target : Ty) → type_alone (Untyped (pos size)) ≡ Some own → is_known target ≡ true → can_cast own target ≡ true → CanBecome (Untyped (pos size)) target
cast_alone size own target alone known casts = record {
  known = known;
  casts = λ apart. absurd (apart (pos size) refl);
  has = λ number e lacks. (own, alone, casts);
}

pub returns-clause-lacking : goal.returns-clause-lacking
returns-clause-lacking c = (cast_alone 300 (Integer true 32) (Integer true 8) refl refl refl, cast_alone 9223372036854775808 (Integer false 64) (Integer true 64) refl refl refl)

pub returns-clause-past_every_type : goal.returns-clause-past_every_type
returns-clause-past_every_type c = λ can. let own = can.has (pos 18446744073709551616) refl refl in let none = own.1 in cc

-- alone the number is of 32 bits, and days are counted in 64
pub returns-clause-no_cast : goal.returns-clause-no_cast
returns-clause-no_cast c = λ can.
    let own = can.has (pos 300) refl refl in
    let is : Integer true 32 ≡ own.0 = let e = own.1 in cc in
    let cast : can_cast (Integer true 32) DateType ≡ true = subst (λ type. can_cast type DateType ≡ true) (sym is) own.2 in
    cc
