-- Signatures: what a kind of expression asks of its operands, one by one, and what it makes of them. Most kinds have one,
-- and with it their rule (`Typing`).
use Rattle.std.specs.Prelude.{ℕ, zero, suc, nat_lt, Bool, true, false, ◌&&◌, ◌||◌, List, [], ◌∷◌, Result, Ok, Err, if◌then◌else◌, Some, None}
use Rattle.plan_types.specs.Types.{Ty, Truth, Integer, DurationType, ListType, is_integer, is_null, is_ord, is_truth}
use Rattle.plan_types.specs.Casts.{can_cast}
use Rattle.plan_types.specs.declared.error.ErrorKind.{ErrorKind}
use Rattle.plan_types.specs.declared.error.ErrorKind.TheVariants.{SchemaMismatch, ComputeError, InvalidOperation}
use Rattle.plan_dsl.specs.declared.aggregate.GroupByMethod.{GroupByMethod}
use Rattle.plan_dsl.specs.declared.aggregate.GroupByMethod.TheVariants.{Min, NanMin, Max, NanMax, NUnique, First as FirstValue, Last, Implode, Sum, Count as CountValues, Groups}
use Rattle.plan_dsl.specs.declared.signature.Ask.{Ask}
use Rattle.plan_dsl.specs.declared.signature.Ask.TheVariants.{Any, Sortable, Boolean, Castable, Place, Length, Summable, Listed}
use Rattle.plan_dsl.specs.declared.signature.Asked.{Asked}
use Rattle.plan_dsl.specs.declared.signature.OwnType.{OwnType}
use Rattle.plan_dsl.specs.declared.signature.OwnType.TheVariants.{First, Item, ListOf, Count, Total, Rows, Truths}
use Rattle.plan_dsl.specs.declared.signature.Many.{Many}
use Rattle.plan_dsl.specs.declared.signature.Many.TheVariants.{Never, Always, AsFirst, WhereAny}
use Rattle.plan_dsl.specs.declared.signature.Sharing.{Sharing}
use Rattle.plan_dsl.specs.declared.signature.Sharing.TheVariants.{Alone, WithSecond, WithThird}
use Rattle.plan_dsl.specs.declared.signature.Signature.{Signature}
use Rattle.plan_dsl.specs.declared.function_expr.FunctionExpr.{FunctionExpr}
use Rattle.plan_dsl.specs.declared.function_expr.FunctionExpr.TheVariants.{AllHorizontal, AnyHorizontal, IsNull, IsNotNull, FillNull, ShiftAndFill, ListGet, FieldByIndex}
use Rattle.plan_dsl.specs.Ops.{Op, LenOp, SliceOp, ExplodeOp, GatherOp, FilterOp, SortOp, SortByOp, AggOp, WindowOp, TernaryOp, FunctionOp}
use Rattle.plan_dsl.specs.Sorting.{are_for}

-- the type of places and lengths
abbrev pub place_type : Ty
place_type = Integer true 64

-- whether values of the type are added up
abbrev pub is_summable : Ty → Bool
is_summable (DurationType unit) = true
is_summable type = is_integer type || is_truth type

-- the type of their sum: of truth values that of counts, and of small integers one that is wide
abbrev pub sum_type : Ty → Ty
sum_type Truth = Integer false 32
sum_type (Integer signed bits) = if nat_lt bits 32 then Integer true 64 else Integer signed bits
sum_type type = type

abbrev pub is_list : Ty → Bool
is_list (ListType item) = true
is_list type = false

-- whether the type that an operand has alone is what is asked
abbrev pub is_asked : Ask → Ty → Bool
is_asked Any type = true
is_asked Sortable type = is_ord type || is_null type
is_asked Boolean type = is_truth type || is_null type
is_asked Castable type = can_cast type Truth
is_asked Place type = is_integer type
is_asked Length type = is_integer type || is_null type
is_asked Summable type = is_summable type
is_asked Listed type = is_list type

-- and the type to which it is taken
abbrev pub asked_target : Ask → Ty → Ty
asked_target Boolean type = Truth
asked_target Castable type = Truth
asked_target Place type = place_type
asked_target Length type = place_type
asked_target ask type = type

-- the own type, from that of the first operand: of a count, and of each row number in a list, 32 bits without a sign
abbrev pub own_type : OwnType → Ty → Ty
own_type First type = type
own_type Item (ListType item) = item
own_type Item type = type
own_type ListOf type = ListType type
own_type Count type = Integer false 32
own_type Total type = sum_type type
own_type Rows type = ListType (Integer false 32)
own_type Truths type = Truth

-- what is asked of an operand, of which there may be many values or must be one
abbrev pub asks : Ask → Asked
asks ask = record { ask = ask; one = false }

abbrev pub asks_one : Ask → Asked
asks_one ask = record { ask = ask; one = true }

-- what is asked of the operand at a place
abbrev pub asked_at : Signature → ℕ → Asked
asked_at signature zero = signature.first
asked_at signature (suc zero) = signature.second
asked_at signature place = signature.rest

-- what is asked of the first operand, of the second and of each other, the own type, and whether there are many values
abbrev pub takes : Asked → Asked → Asked → OwnType → Many → Result Signature ErrorKind
takes first second rest own many = Ok (record { first = first; second = second; rest = rest; own = own; many = many; sharing = Alone })

-- what is asked where the first operand has a common type with another, which is the own type
abbrev pub shares : Sharing → Asked → Asked → Asked → Many → Result Signature ErrorKind
shares sharing first second rest many = Ok (record { first = first; second = second; rest = rest; own = First; many = many; sharing = sharing })

-- whether a sort by so many keys has flags for them
abbrev pub has_flags : List Bool → List Bool → ℕ → Bool
has_flags descending nulls_last keys = are_for descending keys && are_for nulls_last keys

-- what an aggregate asks of its column, and its own type: there is one value
abbrev pub aggregated : Ask → OwnType → Result Signature ErrorKind
aggregated ask own = takes (asks ask) (asks Any) (asks Any) own Never

abbrev pub method_signature : GroupByMethod → Result Signature ErrorKind
method_signature Min = aggregated Sortable First
method_signature NanMin = aggregated Sortable First
method_signature Max = aggregated Sortable First
method_signature NanMax = aggregated Sortable First
method_signature NUnique = aggregated Any Count
method_signature FirstValue = aggregated Any First
method_signature Last = aggregated Any First
method_signature Implode = aggregated Any ListOf
method_signature Sum = aggregated Summable Total
method_signature (CountValues include_nulls) = aggregated Any Count
method_signature Groups = aggregated Any Rows

-- a horizontal over fewer operands than this is written out in plans (`Aliases`)
abbrev pub least_horizontal : ℕ
least_horizontal = 128

-- what a horizontal over so many operands asks of the first: of one alone that it can be cast to truth values
abbrev pub horizontal_ask : ℕ → Ask
horizontal_ask (suc zero) = Castable
horizontal_ask count = Boolean

-- and of each: over none nothing is asked
abbrev pub horizontal_signature : ℕ → Result Signature ErrorKind
horizontal_signature count = takes (asks (horizontal_ask count)) (asks Boolean) (asks Boolean) Truths WhereAny

-- what a function asks of so many operands. Another number than its own is refused, and so is a field at a place, of which
-- expansion leaves none
abbrev pub function_signature : FunctionExpr → ℕ → Result Signature ErrorKind
function_signature IsNull (suc zero) = takes (asks Any) (asks Any) (asks Any) Truths WhereAny
function_signature IsNotNull (suc zero) = takes (asks Any) (asks Any) (asks Any) Truths WhereAny
function_signature FillNull (suc (suc zero)) = shares WithSecond (asks Any) (asks Any) (asks Any) WhereAny
function_signature ShiftAndFill (suc (suc (suc zero))) = shares WithThird (asks Any) (asks_one Place) (asks_one Any) Always
function_signature (ListGet null_on_oob) (suc (suc zero)) = takes (asks Listed) (asks Place) (asks Any) Item WhereAny
function_signature AllHorizontal count = horizontal_signature count
function_signature AnyHorizontal count = horizontal_signature count
function_signature (FieldByIndex place) count = Err InvalidOperation
function_signature function count = Err ComputeError

-- The signature of an op over so many operands. An op over another number of operands than its own, which no expression
-- has, has none.
abbrev pub signature : Op → ℕ → Result Signature ErrorKind
signature LenOp zero = takes (asks Any) (asks Any) (asks Any) Count Never
signature SliceOp (suc (suc (suc zero))) = takes (asks Any) (asks_one Place) (asks_one Length) First Always
signature ExplodeOp (suc zero) = takes (asks Any) (asks Any) (asks Any) Item Always
signature (GatherOp true) (suc (suc zero)) = takes (asks Any) (asks_one Place) (asks Any) First Never
signature (GatherOp false) (suc (suc zero)) = takes (asks Any) (asks Place) (asks Any) First Always
signature FilterOp (suc (suc zero)) = takes (asks Any) (asks Boolean) (asks Any) First Always
signature (SortOp options) (suc zero) = takes (asks Sortable) (asks Any) (asks Any) First AsFirst
signature (SortByOp descending nulls_last) (suc keys) =
    if has_flags descending nulls_last keys then takes (asks Any) (asks Sortable) (asks Sortable) First AsFirst else Err ComputeError
signature (AggOp method) (suc zero) = method_signature method
signature (WindowOp None) (suc (suc keys)) = takes (asks Any) (asks Any) (asks Any) First Always
signature (WindowOp (Some options)) (suc (suc (suc keys))) = takes (asks Any) (asks Sortable) (asks Any) First Always
signature (WindowOp order) count = Err InvalidOperation
signature TernaryOp (suc (suc (suc zero))) = shares WithThird (asks Any) (asks Boolean) (asks Any) WhereAny
signature (FunctionOp function recorded) count = function_signature function count
signature op count = Err SchemaMismatch

-- the kinds that a node breaks whatever its children's types, and where they have none: that for which its op has no
-- signature, but for the number of the children, which is a function's rule where they have types
abbrev pub unsigned_kinds : Result Signature ErrorKind → List ErrorKind
unsigned_kinds (Err ComputeError) = ComputeError ∷ []
unsigned_kinds found = []

abbrev pub bare_kinds : Op → ℕ → List ErrorKind
bare_kinds (FunctionOp function recorded) count = []
bare_kinds op count = unsigned_kinds (signature op count)
