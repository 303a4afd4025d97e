-- Operands of which one is a time, and that aren't taken.
use Rattle.std.proofs.Common.{◌≡◌, true, false, Result, Ok, Err, refl, ap}
use Rattle.plan_types.specs.Types.{Ty, DateType, TimeType, DatetimeType, DurationType, Integer, ty, is_integer}
use Rattle.plan_types.specs.Errors.{IsRefusal, at_top, broken}
use Rattle.plan_types.specs.declared.dtype.TimeUnit.{TimeUnit}
use Rattle.plan_types.specs.declared.dtype.DataType.{DataType}
use Rattle.plan_types.specs.declared.dtype.DataType.TheVariants.{Int8, Int16, Int32, Int64, UInt8, UInt16, UInt32, UInt64, Date, Time, Datetime, Duration}
use Rattle.plan_types.specs.declared.error.ErrorKind.{ErrorKind}
use Rattle.plan_types.specs.declared.error.ErrorKind.TheVariants.{InvalidOperation, SchemaMismatch}
use Rattle.plan_types.specs.declared.error.PlanError.{PlanError}
use Rattle.plan_dsl.specs.declared.operator.Operator.{Operator}
use Rattle.plan_dsl.specs.declared.operator.Operator.TheVariants.{Plus, Minus, Multiply}
use Rattle.plan_dsl.specs.OperatorTypes.{Taken, pair_to, time_difference_types, time_product_types, time_sum_types, time_types}

abbrev IsNoMoment : DataType → Type 0
IsNoMoment dtype = (unit : TimeUnit) → dtype ≡ Datetime unit → ⊥

abbrev IsNoSpan : DataType → Type 0
IsNoSpan dtype = (unit : TimeUnit) → dtype ≡ Duration unit → ⊥

-- times are added, subtracted and multiplied alone
pub other_operator : (op : Operator) (left right : Ty) → (op ≡ Plus → ⊥) → (op ≡ Minus → ⊥) → (op ≡ Multiply → ⊥) → time_types op left right ≡ Err InvalidOperation
other_operator Plus left right no_sum no_difference no_product = absurd (no_sum refl)
other_operator Minus left right no_sum no_difference no_product = absurd (no_difference refl)
other_operator Multiply left right no_sum no_difference no_product = absurd (no_product refl)
other_operator op left right no_sum no_difference no_product = refl

-- what is added to a moment, to a span, and to any other type
pub added_to_moment : (unit : TimeUnit) (right : DataType) → IsNoSpan right → time_sum_types (DatetimeType unit) (ty right) ≡ Err InvalidOperation
added_to_moment unit (Duration other) no_span = absurd (no_span other refl)
added_to_moment unit right no_span = refl

pub added_to_span : (unit : TimeUnit) (right : DataType) → IsNoMoment right → IsNoSpan right → time_sum_types (DurationType unit) (ty right) ≡ Err InvalidOperation
added_to_span unit (Datetime other) no_moment no_span = absurd (no_moment other refl)
added_to_span unit (Duration other) no_moment no_span = absurd (no_span other refl)
added_to_span unit right no_moment no_span = refl

pub added_to_other : (left : DataType) (right : Ty) → IsNoMoment left → IsNoSpan left → time_sum_types (ty left) right ≡ Err InvalidOperation
added_to_other (Datetime unit) right no_moment no_span = absurd (no_moment unit refl)
added_to_other (Duration unit) right no_moment no_span = absurd (no_span unit refl)
added_to_other left right no_moment no_span = refl

-- what is subtracted from a date, a time, a moment, a span, and any other type
pub from_date : (right : DataType) → (right ≡ Date → ⊥) → IsNoMoment right → time_difference_types DateType (ty right) ≡ Err InvalidOperation
from_date Date no_date no_moment = absurd (no_date refl)
from_date (Datetime unit) no_date no_moment = absurd (no_moment unit refl)
from_date right no_date no_moment = refl

pub from_time : (right : DataType) → (right ≡ Time → ⊥) → time_difference_types TimeType (ty right) ≡ Err InvalidOperation
from_time Time no_time = absurd (no_time refl)
from_time right no_time = refl

pub from_moment : (unit : TimeUnit) (right : DataType) → (right ≡ Date → ⊥) → IsNoMoment right → IsNoSpan right → time_difference_types (DatetimeType unit) (ty right) ≡ Err InvalidOperation
from_moment unit Date no_date no_moment no_span = absurd (no_date refl)
from_moment unit (Datetime other) no_date no_moment no_span = absurd (no_moment other refl)
from_moment unit (Duration other) no_date no_moment no_span = absurd (no_span other refl)
from_moment unit right no_date no_moment no_span = refl

pub from_span : (unit : TimeUnit) (right : DataType) → IsNoSpan right → time_difference_types (DurationType unit) (ty right) ≡ Err InvalidOperation
from_span unit (Duration other) no_span = absurd (no_span other refl)
from_span unit right no_span = refl

pub from_other : (left : DataType) (right : Ty) → (left ≡ Date → ⊥) → (left ≡ Time → ⊥) → IsNoMoment left → IsNoSpan left → time_difference_types (ty left) right ≡ Err InvalidOperation
from_other Date right no_date no_time no_moment no_span = absurd (no_date refl)
from_other Time right no_date no_time no_moment no_span = absurd (no_time refl)
from_other (Datetime unit) right no_date no_time no_moment no_span = absurd (no_moment unit refl)
from_other (Duration unit) right no_date no_time no_moment no_span = absurd (no_span unit refl)
from_other left right no_date no_time no_moment no_span = refl

-- what is multiplied without a span
pub no_span_times : (left right : DataType) → IsNoSpan left → IsNoSpan right → time_product_types (ty left) (ty right) ≡ Err InvalidOperation
no_span_times (Duration unit) right no_span none = absurd (no_span unit refl)
no_span_times left (Duration unit) no_span none = absurd (none unit refl)
no_span_times left right no_span none = refl

-- what a span is multiplied by, on either side
abbrev Multiplies : Ty → TimeUnit → Result Taken ErrorKind → Result Taken ErrorKind → Type 0
Multiplies factor unit right left = (time_product_types (DurationType unit) factor ≡ right) × (time_product_types factor (DurationType unit) ≡ left)

pub no_factor : (factor : Ty) (unit : TimeUnit) → is_integer factor ≡ false → Multiplies factor unit (Err InvalidOperation) (Err InvalidOperation)
no_factor (Integer signed bits) unit h = cc
no_factor factor unit h = (refl, refl)

pub wide_factor : (factor : DataType) (unit : TimeUnit) → factor ≡ UInt64 → Multiplies (ty factor) unit (Err SchemaMismatch) (Err SchemaMismatch)
wide_factor factor unit is = (ap (λ f. time_product_types (DurationType unit) (ty f)) is, ap (λ f. time_product_types (ty f) (DurationType unit)) is)

pub factor_taken : (factor : DataType) (unit : TimeUnit) → is_integer (ty factor) ≡ true → (factor ≡ UInt64 → ⊥) →
    Multiplies (ty factor) unit (Ok (pair_to (DurationType unit) (Integer true 64) (DurationType unit))) (Ok (pair_to (Integer true 64) (DurationType unit) (DurationType unit)))
factor_taken Int8 unit h narrow = (refl, refl)
factor_taken Int16 unit h narrow = (refl, refl)
factor_taken Int32 unit h narrow = (refl, refl)
factor_taken Int64 unit h narrow = (refl, refl)
factor_taken UInt8 unit h narrow = (refl, refl)
factor_taken UInt16 unit h narrow = (refl, refl)
factor_taken UInt32 unit h narrow = (refl, refl)
factor_taken UInt64 unit h narrow = absurd (narrow refl)
factor_taken factor unit h narrow = cc

pub factor_refused : (factor : Ty) (unit : TimeUnit) (kind : ErrorKind) (error : PlanError) → error ≡ at_top kind → Multiplies factor unit (Err kind) (Err kind) →
    IsRefusal (time_product_types (DurationType unit) factor) error × IsRefusal (time_product_types factor (DurationType unit)) error
factor_refused factor unit kind error e refused = (broken kind e refused.0, broken kind e refused.1)
