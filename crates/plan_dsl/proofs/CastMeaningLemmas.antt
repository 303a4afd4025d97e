-- Casts of what an operand gives: to the own type they change nothing, and any other goes column by column.
use Rattle.std.proofs.Common.{◌≡◌, Bool, true, false, List, cond, refl, ap}
use Rattle.plan_types.specs.Types.{Ty, same_type}
use Rattle.plan_types.specs.TypeLaws.{same_type_own}
use Rattle.plan_types.specs.Outcomes.{Outcome, Done, Fault, Stuck, then_do}
use Rattle.plan_types.specs.Values.{Val}
use Rattle.plan_types.specs.declared.dtype.CastOptions.{CastOptions}
use Rattle.plan_types.specs.declared.dtype.CastOptions.TheVariants.{NonStrict}
use Rattle.plan_dsl.specs.Kernels.{Meaning, cast_column, cast_meaning, cast_values}

pub if_true : {A : Type 0} (b : Bool) (x y : A) → b ≡ true → cond b x y ≡ x
if_true b x y e = ap (λ v. cond v x y) e

pub if_false : {A : Type 0} (b : Bool) (x y : A) → b ≡ false → cond b x y ≡ y
if_false b x y e = ap (λ v. cond v x y) e

-- a cast to the own type is the identity
pub cast_same : (from target : Ty) (options : CastOptions) (operand : Meaning) → same_type from target ≡ true → cast_meaning from target options operand ≡ operand
cast_same from target options operand e = if_true (same_type from target) operand _ e

pub cast_own : (type : Ty) (operand : Meaning) → cast_meaning type type NonStrict operand ≡ operand
cast_own type operand = cast_same type type NonStrict operand (same_type_own type)

done_again : (o : Outcome (List Val)) → then_do o (λ values. Done values) ≡ o
done_again (Done values) = refl
done_again Fault = refl
done_again Stuck = refl

-- a cast of what an operand gives is one of each column that it gives
pub column_by_column : (from target : Ty) (options : CastOptions) (operand : Meaning) → (λ rows. then_do (operand rows) (cast_column from target options)) ≡ cast_meaning from target options operand
column_by_column from target options operand =
    elim (same_type from target) as (λ b. (λ rows. then_do (operand rows) (λ values. cond b (Done values) (cast_values from target options values))) ≡ cond b operand (λ rows. then_do (operand rows) (cast_values from target options))) [ true ↦ λ i rows. done_again (operand rows) i | false ↦ refl ]
