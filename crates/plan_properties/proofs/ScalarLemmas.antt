-- A scalar expression has one value.
use Rattle.std.proofs.Common.{◌≡◌, ◌≤◌, ℕ, suc, pos, negsuc, Bool, true, false, cond, ◌&&◌, ◌||◌, List, [], ◌∷◌, ◌++◌, length, map, take, replicate, Ok, Err, refl, ap, ◌∙◌, subst, arith}
use Rattle.std.specs.Prelude.{min}
use Rattle.std.proofs.Math.ListN.{drop_of_length-le}
use Rattle.std.proofs.lemmas.Bool.{and_parts}
use Rattle.std.proofs.lemmas.List.{length-map, length-replicate}
use Rattle.std.specs.List.{AllByRecursion}
use Rattle.plan_types.specs.Casts.{Converted}
use Rattle.plan_types.specs.Frames.{Frame, Row}
use Rattle.plan_types.specs.Outcomes.{Outcome, Done, Fault, Stuck, Meets, then_do}
use Rattle.plan_types.specs.Types.{Ty, Truth, ListType, same_type}
use Rattle.plan_types.specs.Values.{Val, IntValue}
use Rattle.plan_types.specs.declared.dtype.CastOptions.{CastOptions}
use Rattle.plan_types.specs.declared.dtype.CastOptions.TheVariants.{NonStrict}
use Rattle.plan_dsl.specs.declared.function_expr.FunctionExpr.{FunctionExpr}
use Rattle.plan_dsl.specs.declared.function_expr.FunctionExpr.TheVariants.{AllHorizontal, AnyHorizontal, IsNull, IsNotNull, FillNull, IsIn, ShiftAndFill, ListGet, FieldByName, FieldByIndex}
use Rattle.plan_dsl.specs.declared.operator.Operator.{Operator}
use Rattle.plan_dsl.specs.FunctionValues.{field_value, function_value, function_values, is_among_values, is_in_values, list_has, list_item, moved_up, shift_values, shifted, ternary_value}
use Rattle.plan_dsl.specs.Kernels.{Meaning, cast_column, cast_meaning, cast_values, given, kernel, operator_values}
use Rattle.plan_dsl.specs.Laws.{AreOf}
use Rattle.plan_dsl.specs.Meaning.{applied, meaning, meaning_all, node_meaning, ruled_meaning, taken_to}
use Rattle.plan_dsl.specs.Ops.{Op, ColumnOp, LiteralOp, BinaryOp, CastOp, LenOp, SliceOp, ExplodeOp, GatherOp, FilterOp, SortOp, SortByOp, WindowOp, AliasOp, AggOp, TernaryOp, FunctionOp, Expression}
use Rattle.plan_dsl.specs.Properties.{all_hold, gives_one, is_own_elementwise, is_scalar, keeps_one, over_any}
use Rattle.plan_dsl.specs.Registry.{Registry}
use Rattle.plan_dsl.specs.Rows.{by_row}
use Rattle.plan_dsl.specs.Trees.{Trees, node, no_more, more}
use Rattle.plan_dsl.specs.Typing.{Typed, Ruling, rule, types_of, typing_all}
use Rattle.plan_dsl.proofs.ColumnLemmas.{one_value}
use Rattle.plan_dsl.proofs.FitLemmas.{meaning_has_type}
use Rattle.plan_properties.specs.Laws.{HasValuesOr, ScalarsHaveOneValue}
use Rattle.plan_properties.proofs.HarmlessLemmas.{values_cast}
use Rattle.plan_properties.proofs.SideLemmas.{AreLong, one_row_has}

-- one value, where there is no fault
abbrev OneValue : Outcome (List Val) → Type 0
OneValue (Done values) = length values ≡ 1
OneValue Fault = Unit {0}
OneValue Stuck = Unit {0}

as_one : (o : Outcome (List Val)) → HasValuesOr (Unit {0}) 1 o → OneValue o
as_one (Done values) h = h
as_one Fault h = tt
as_one Stuck h = tt

then_one : (o : Outcome (List Val)) (next : List Val → Outcome (List Val)) → OneValue o → ((values : List Val) → length values ≡ 1 → OneValue (next values)) → OneValue (then_do o next)
then_one (Done values) next one each = each values one
then_one Fault next one each = tt
then_one Stuck next one each = tt

-- columns of one value
abbrev AreOnes : List (List Val) → Type 0
AreOnes columns = AllByRecursion (λ column. length column ≡ 1) columns

abbrev GivenOnes : Outcome (List (List Val)) → Type 0
GivenOnes (Done columns) = AreOnes columns
GivenOnes Fault = Unit {0}
GivenOnes Stuck = Unit {0}

then_any : (o : Outcome (List (List Val))) (next : List (List Val) → Outcome (List Val)) → ((columns : List (List Val)) → OneValue (next columns)) → OneValue (then_do o next)
then_any (Done columns) next each = each columns
then_any Fault next each = tt
then_any Stuck next each = tt

then_ones : (o : Outcome (List (List Val))) (next : List (List Val) → Outcome (List Val)) → GivenOnes o → ((columns : List (List Val)) → AreOnes columns → OneValue (next columns)) → OneValue (then_do o next)
then_ones (Done columns) next ones each = each columns ones
then_ones Fault next ones each = tt
then_ones Stuck next ones each = tt

-- ---- operands

own : (op : Op) (operands : List Bool) → is_own_elementwise op operands ≡ true → is_own_elementwise op operands ≡ true
own op operands h = h

values_one : (from target : Ty) (options : CastOptions) (values : List Val) → length values ≡ 1 → OneValue (cast_values from target options values)
values_one from target options values h =
    as_one (cast_values from target options values) (subst (λ k. HasValuesOr (Unit {0}) k (cast_values from target options values)) h (values_cast (Unit {0}) is_own_elementwise own (λ op operands h e. tt) from target options (λ e. tt) values))

column_one : (from target : Ty) (options : CastOptions) (values : List Val) → length values ≡ 1 → OneValue (cast_column from target options values)
column_one from target options values h =
    elim (same_type from target) as (λ b. OneValue (cond b (Done values) (cast_values from target options values))) [ true ↦ h | false ↦ values_one from target options values h ]

operand_one : (from target : Ty) (m : Meaning) (rows : List ℕ) → OneValue (m rows) → OneValue (cast_meaning from target NonStrict m rows)
operand_one from target m rows one =
    elim (same_type from target) as (λ b. OneValue (cond b m (λ rows. then_do (m rows) (cast_values from target NonStrict)) rows)) [
      | true ↦ one
      | false ↦ then_one (m rows) (cast_values from target NonStrict) one (values_one from target NonStrict)
    ]

abbrev AllOne : List ℕ → List Meaning → Type 0
AllOne rows ms = AllByRecursion (λ m. OneValue (m rows)) ms

taken_one : (rows : List ℕ) (types targets : List Ty) (ms : List Meaning) → AllOne rows ms → AllOne rows (taken_to types targets ms)
taken_one rows [] targets ms all = tt
taken_one rows (from ∷ types) [] ms all = tt
taken_one rows (from ∷ types) (target ∷ targets) [] all = tt
taken_one rows (from ∷ types) (target ∷ targets) (m ∷ ms) all = (operand_one from target m rows all.0, taken_one rows types targets ms all.1)

front_ones : (o : Outcome (List Val)) (others : Outcome (List (List Val))) → OneValue o → GivenOnes others → GivenOnes (then_do o (λ column. then_do others (λ columns. Done (column ∷ columns))))
front_ones (Done column) (Done columns) one ones = (one, ones)
front_ones (Done column) Fault one ones = tt
front_ones (Done column) Stuck one ones = tt
front_ones Fault others one ones = tt
front_ones Stuck others one ones = tt

given_ones : (rows : List ℕ) (ms : List Meaning) → AllOne rows ms → GivenOnes (given ms rows)
given_ones rows [] all = tt
given_ones rows (m ∷ ms) all = front_ones (m rows) (given ms rows) all.0 (given_ones rows ms all.1)

-- ---- kernels

pair_one : (operator : Operator) (from type : Ty) (left right : List Val) → length left ≡ 1 → length right ≡ 1 → OneValue (operator_values operator from type left right)
pair_one operator from type left right h k =
    one_value (λ left. OneValue (operator_values operator from type left right)) (λ x.
    one_value (λ right. OneValue (operator_values operator from type (x ∷ []) right)) (λ y. refl) right k) left h

-- a row of one value each
abbrev singles : List (List Val) → List Typed
singles columns = map (λ column. record { type = Truth; many = false }) columns

singles_are : (columns : List (List Val)) → AreOnes columns → AreLong 1 (singles columns) columns
singles_are [] ones = tt
singles_are (column ∷ columns) ones = (ones.0, singles_are columns ones.1)

row_one : (f : Row → Converted) (columns : List (List Val)) → AreOnes columns → OneValue (by_row f columns)
row_one f columns ones = as_one (by_row f columns) (one_row_has f (singles columns) columns (singles_are columns ones))

is_in_one : (types : List Ty) (columns : List (List Val)) → AreOnes columns → OneValue (is_in_values types columns)
is_in_one (type ∷ ListType item ∷ []) columns ones = row_one list_has columns ones
is_in_one _ (values ∷ others ∷ []) ones = length-map values (is_among_values others) ∙ ones.0
is_in_one _ _ ones = tt

down_one : (values : List Val) (value : Val) → length (take 1 (values ++ value ∷ [])) ≡ 1
down_one [] value = refl
down_one (first ∷ values) value = refl

up_one : (before : ℕ) (value fill : Val) → length (moved_up (suc before) (value ∷ []) fill) ≡ 1
up_one before value fill =
    let kept = min (suc before) 1 in
    let past : 1 ≤ suc before = omega arith in
    let one : kept ≡ 1 = omega arith in
    ap (λ l. length (l ++ replicate kept fill)) (drop_of_length-le (value ∷ []) past) ∙ length-replicate kept fill ∙ one

shifted_one : (value count fill : Val) → length (shifted (value ∷ []) count fill) ≡ 1
shifted_one value (IntValue (pos count)) fill = down_one (replicate (min count 1) fill) value
shifted_one value (IntValue (negsuc before)) fill = up_one before value fill
shifted_one value _ fill = refl

shift_one : (columns : List (List Val)) → AreOnes columns → OneValue (shift_values columns)
shift_one ((value ∷ []) ∷ (count ∷ []) ∷ (fill ∷ []) ∷ []) ones = shifted_one value count fill
shift_one ([] ∷ (count ∷ []) ∷ (fill ∷ []) ∷ []) ones = cc
shift_one ((value ∷ second ∷ values) ∷ (count ∷ []) ∷ (fill ∷ []) ∷ []) ones = cc
shift_one _ ones = tt

function_one : (function : FunctionExpr) (types : List Ty) (columns : List (List Val)) → AreOnes columns → OneValue (function_values function types columns)
function_one IsIn types columns ones = is_in_one types columns ones
function_one ShiftAndFill types columns ones = shift_one columns ones
function_one IsNull types columns ones = row_one (function_value IsNull types) columns ones
function_one IsNotNull types columns ones = row_one (function_value IsNotNull types) columns ones
function_one FillNull types columns ones = row_one (function_value FillNull types) columns ones
function_one (ListGet flag) types columns ones = row_one (list_item flag) columns ones
function_one (FieldByName name) types columns ones = row_one (field_value name types) columns ones
function_one AllHorizontal types columns ones = row_one (function_value AllHorizontal types) columns ones
function_one AnyHorizontal types columns ones = row_one (function_value AnyHorizontal types) columns ones
function_one (FieldByIndex place) types columns ones = row_one (function_value (FieldByIndex place) types) columns ones

module _ (registry : Registry) (frame : Frame) (rows : List ℕ) where
  abbrev on : Op → List Ty → Ty → List (List Val) → Outcome (List Val)
  on = kernel registry frame rows

  literal_gives : (of : Ty) (value : Val) (types : List Ty) (type : Ty) (columns : List (List Val)) → OneValue (on (LiteralOp of value) types type columns)
  literal_gives of value [] type [] = refl
  literal_gives of value _ type _ = tt

  len_gives : (types : List Ty) (type : Ty) (columns : List (List Val)) → OneValue (on LenOp types type columns)
  len_gives [] type [] = refl
  len_gives _ type _ = tt

  aggregate_gives : (method : _) (types : List Ty) (type : Ty) (columns : List (List Val)) → OneValue (on (AggOp method) types type columns)
  aggregate_gives method types type [] = tt
  aggregate_gives method types type (values ∷ []) = refl
  aggregate_gives method types type (values ∷ second ∷ columns) = tt

  binary_gives : (operator : Operator) (types : List Ty) (type : Ty) (columns : List (List Val)) → AreOnes columns → OneValue (on (BinaryOp operator) types type columns)
  binary_gives operator (from ∷ types) type (left ∷ right ∷ []) ones = pair_one operator from type left right ones.0 ones.1.0
  binary_gives operator _ type _ ones = tt

  cast_gives : (target : Ty) (options : CastOptions) (types : List Ty) (type : Ty) (columns : List (List Val)) → AreOnes columns → OneValue (on (CastOp target options) types type columns)
  cast_gives target options (from ∷ []) type (values ∷ []) ones = column_one from target options values ones.0
  cast_gives target options _ type _ ones = tt

  alias_gives : (name : _) (types : List Ty) (type : Ty) (columns : List (List Val)) → AreOnes columns → OneValue (on (AliasOp name) types type columns)
  alias_gives name types type [] ones = tt
  alias_gives name types type (column ∷ []) ones = ones.0
  alias_gives name types type (column ∷ second ∷ columns) ones = tt

  -- a node that settles it, or hands it on to operands of one value
  applied_one : (op : Op) (ruling : Ruling) (scalar : Bool) → (gives_one op || (keeps_one op && scalar)) ≡ true → (ms : List Meaning) → (scalar ≡ true → GivenOnes (given ms rows)) → OneValue (applied registry frame op ruling ms rows)
  applied_one (LiteralOp type value) ruling scalar s ms ones = then_any (given ms rows) (on (LiteralOp type value) ruling.operands ruling.own.type) (literal_gives type value ruling.operands ruling.own.type)
  applied_one LenOp ruling scalar s ms ones = then_any (given ms rows) (on LenOp ruling.operands ruling.own.type) (len_gives ruling.operands ruling.own.type)
  applied_one (AggOp method) ruling scalar s ms ones = then_any (given ms rows) (on (AggOp method) ruling.operands ruling.own.type) (aggregate_gives method ruling.operands ruling.own.type)
  applied_one (BinaryOp operator) ruling scalar s ms ones = then_ones (given ms rows) (on (BinaryOp operator) ruling.operands ruling.own.type) (ones s) (binary_gives operator ruling.operands ruling.own.type)
  applied_one (CastOp target options) ruling scalar s ms ones = then_ones (given ms rows) (on (CastOp target options) ruling.operands ruling.own.type) (ones s) (cast_gives target options ruling.operands ruling.own.type)
  applied_one (AliasOp name) ruling scalar s ms ones = then_ones (given ms rows) (on (AliasOp name) ruling.operands ruling.own.type) (ones s) (alias_gives name ruling.operands ruling.own.type)
  applied_one TernaryOp ruling scalar s ms ones = then_ones (given ms rows) (on TernaryOp ruling.operands ruling.own.type) (ones s) (row_one ternary_value)
  applied_one (FunctionOp function recorded) ruling scalar s ms ones = then_ones (given ms rows) (on (FunctionOp function recorded) ruling.operands ruling.own.type) (ones s) (function_one function ruling.operands)
  applied_one (ColumnOp name) ruling scalar s ms ones = cc
  applied_one SliceOp ruling scalar s ms ones = cc
  applied_one ExplodeOp ruling scalar s ms ones = cc
  applied_one (GatherOp returns_scalar) ruling scalar s ms ones = cc
  applied_one FilterOp ruling scalar s ms ones = cc
  applied_one (SortOp options) ruling scalar s ms ones = cc
  applied_one (SortByOp descending nulls_last) ruling scalar s ms ones = cc
  applied_one (WindowOp order) ruling scalar s ms ones = cc

  -- ---- expressions

  abbrev holds : Trees Op → Bool
  holds = all_hold gives_one (over_any keeps_one)

  mutual
    scalar_one : (t : Expression) → is_scalar t ≡ true → OneValue (meaning registry frame t rows)
    scalar_one (node op ts) s =
        let ms = meaning_all registry frame ts in
        elim (typing_all registry frame.schema ts) as (λ r. OneValue (node_meaning registry frame op r ms rows)) [
          | Err kind ↦ tt
          | Ok typed ↦ elim (rule registry frame.schema op typed) as (λ r. OneValue (ruled_meaning registry frame op (types_of typed) r ms rows)) [
            | Err kind ↦ tt
            | Ok ruling ↦
                let taken = taken_to (types_of typed) ruling.operands ms in
                applied_one op ruling (holds ts) s taken (λ all. given_ones rows taken (taken_one rows (types_of typed) ruling.operands ms (all_one ts all)))
          ]
        ]

    all_one : (ts : Trees Op) → holds ts ≡ true → AllOne rows (meaning_all registry frame ts)
    all_one no_more s = tt
    all_one (more t ts) s =
        let both = and_parts (is_scalar t) (holds ts) s in
        (scalar_one t both.0, all_one ts both.1)

meets_one : (typed : Typed) (o : Outcome (List Val)) → Meets (AreOf typed) o → OneValue o → Meets (λ (values : List Val). length values ≡ 1) o
meets_one typed (Done values) of one = one
meets_one typed Fault of one = tt
meets_one typed Stuck of one = absurd of

pub scalars_have_one_value : ScalarsHaveOneValue
scalars_have_one_value registry frame tree typed of is scalar rows =
    meets_one typed (meaning registry frame tree rows) (meaning_has_type registry frame of tree typed is rows) (scalar_one registry frame rows tree scalar)
