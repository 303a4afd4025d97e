-- Ops that go row by row: what they give of each row, and which of them may have a fault.
use Rattle.std.proofs.Common.{◌≡◌, ◌≢◌, inl, inr, ℕ, zero, suc, ℤ, pos, negsuc, Bool, true, false, cond, if◌then◌else◌, nat_lt, ◌||◌, List, [], ◌∷◌, length, map, replicate, Option, Some, None, slice_get, Result, Ok, Err, refl, sym, ap, ◌∙◌, subst, arith}
use Rattle.plan_types.specs.Casts.{Converted, Gives, Fails, cast}
use Rattle.plan_types.specs.Frames.{Frame, Row}
use Rattle.plan_types.specs.Outcomes.{Outcome, Done, then_do}
use Rattle.plan_types.specs.Types.{Ty, ListType, StructType, same_type}
use Rattle.plan_types.specs.Values.{Val, NullValue, TruthValue, IntValue, TextValue, ListValue, StructValue}
use Rattle.plan_types.specs.Schemas.{Columns, Name}
use Rattle.plan_types.specs.CommonTypes.{type_alone}
use Rattle.plan_types.specs.declared.error.ErrorKind.{ErrorKind}
use Rattle.plan_types.specs.declared.error.ErrorKind.TheVariants.{ComputeError}
use Rattle.plan_dsl.specs.declared.function_expr.FunctionExpr.{FunctionExpr}
use Rattle.plan_dsl.specs.declared.function_expr.FunctionExpr.TheVariants.{AllHorizontal, AnyHorizontal, IsNull, IsNotNull, FillNull, IsIn, ShiftAndFill, ListGet, FieldByName, FieldByIndex}
use Rattle.plan_dsl.specs.declared.signature.Ask.TheVariants.{Boolean}
use Rattle.plan_dsl.specs.declared.signature.Many.TheVariants.{WhereAny}
use Rattle.plan_dsl.specs.declared.signature.OwnType.TheVariants.{Truths}
use Rattle.plan_dsl.specs.declared.signature.Signature.{Signature}
use Rattle.plan_dsl.specs.FunctionTypes.{field_taken, is_in_taken}
use Rattle.plan_dsl.specs.FunctionValues.{field_value, found_item, function_value, is_among_values, is_in_values, item_at, list_has, list_item, ternary_value}
use Rattle.plan_dsl.specs.Kernels.{Meaning, at_each, at_length, cast_column, cast_values, common_length, given, kernel, operator_values, value_before}
use Rattle.plan_dsl.specs.Labels.{Label}
use Rattle.plan_dsl.specs.Meaning.{applied}
use Rattle.plan_dsl.specs.Operators.{operator_value}
use Rattle.plan_dsl.specs.OperatorTypes.{operator_types}
use Rattle.plan_dsl.specs.declared.operator.Operator.{Operator}
use Rattle.plan_types.specs.declared.dtype.CastOptions.{CastOptions}
use Rattle.plan_types.specs.declared.dtype.CastOptions.TheVariants.{Strict, NonStrict, Overflowing}
use Rattle.plan_types.proofs.CastLemmas.{cast_never_fails}
use Rattle.plan_dsl.specs.Ops.{Op, LiteralOp, BinaryOp, CastOp, AliasOp, TernaryOp, FunctionOp, Expression}
use Rattle.plan_dsl.specs.Picks.{items_in}
use Rattle.plan_dsl.specs.Properties.{is_literal, is_no_column, is_own_elementwise, is_own_harmless, literals}
use Rattle.plan_dsl.specs.Registry.{Registry}
use Rattle.plan_dsl.specs.Rows.{by_row, each_row, in_front, stretched}
use Rattle.plan_dsl.specs.Signatures.{asks, function_signature, horizontal_signature, least_horizontal, signature, takes}
use Rattle.plan_dsl.specs.Slices.{slice_start}
use Rattle.plan_dsl.specs.Trees.{Trees, node, no_more, more, top_op}
use Rattle.plan_dsl.specs.Typing.{Typed, Ruling, aliased, cast_taken, literal_taken, many_of, own_over, rule, shared_type, signed, signed_sharing, signed_to, some_many, taken_from, typed_to, types_of, typing, typing_all}
use Rattle.plan_dsl.proofs.SignatureLemmas.{AllBecome}
use Rattle.plan_dsl.proofs.TypingLemmas.{by_children, ok_same, ruled_is, typed_parts}
use Rattle.plan_properties.specs.Laws.{row_count}
use Rattle.plan_properties.proofs.SideLemmas.{AreLong, are_for, by_row_is, common, made_of_rows, stretched_length, stretched_self}

-- ---- what is given of each row

abbrev among_value : Row → Converted
among_value (value ∷ other ∷ []) = Gives (is_among_values (other ∷ []) value)
among_value row = Fails

-- whether a value is in another operand, which is a list for each row, or one value for all
abbrev is_in_value : List Ty → Row → Converted
is_in_value (type ∷ ListType item ∷ []) row = list_has row
is_in_value types row = among_value row

-- of one value, and of two
abbrev of_one : (Val → Converted) → Row → Converted
of_one f (value ∷ []) = f value
of_one f row = Fails

abbrev cast_value : Ty → CastOptions → List Ty → Row → Converted
cast_value target options (from ∷ types) row = of_one (λ value. if same_type from target then Gives value else cast value from target options) row
cast_value target options [] row = Fails

abbrev pair_value : Operator → List Ty → Ty → Row → Converted
pair_value operator (from ∷ types) type (left ∷ right ∷ []) = Gives (operator_value operator from type left right)
pair_value operator types type row = Fails

-- ---- one column, and two

each_made : (f : Val → Converted) (make : List Val → Outcome (List Val)) → make [] ≡ Done [] → ((value : Val) (values : List Val) → make (value ∷ values) ≡ value_before (f value) (make values))
    → (values : List Val) → each_row (of_one f) (in_front values (replicate (length values) [])) ≡ make values
each_made f make none step [] = sym none
each_made f make none step (value ∷ values) = ap (value_before (f value)) (each_made f make none step values) ∙ sym (step value values)

one_made : (f : Val → Converted) (make : List Val → Outcome (List Val)) → make [] ≡ Done [] → ((value : Val) (values : List Val) → make (value ∷ values) ≡ value_before (f value) (make values))
    → (values : List Val) → make values ≡ by_row (of_one f) (values ∷ [])
one_made f make none step values =
    let count = length values in
    sym (made_of_rows (of_one f) count (values ∷ []) (common count true false) (inl refl, tt)
    ∙ ap (λ l. each_row (of_one f) (in_front l (replicate count []))) (stretched_self values) ∙ each_made f make none step values)

cast_made : (from target : Ty) (options : CastOptions) (values : List Val) → cast_column from target options values ≡ by_row (of_one (λ value. if same_type from target then Gives value else cast value from target options)) (values ∷ [])
cast_made from target options values =
    elim (same_type from target) as (λ b. cond b (Done values) (cast_values from target options values) ≡ by_row (of_one (λ value. cond b (Gives value) (cast value from target options))) (values ∷ [])) [
      | true ↦ one_made (λ value. Gives value) (λ values. Done values) refl (λ value values. refl) values
      | false ↦ one_made (λ value. cast value from target options) (cast_values from target options) refl (λ value values. refl) values
    ]

pairs_made : (operator : Operator) (from type : Ty) (types : List Ty) (ls rs : List Val) (count : ℕ) → length ls ≡ count → length rs ≡ count
    → each_row (pair_value operator (from ∷ types) type) (in_front ls (in_front rs (replicate count []))) ≡ Done (at_each (operator_value operator from type) ls rs)
pairs_made operator from type types [] rs count h k = refl
pairs_made operator from type types (l ∷ ls) [] count h k = let none : suc (length ls) ≡ 0 = h ∙ sym k in cc
pairs_made operator from type types (l ∷ ls) (r ∷ rs) zero h k = cc
pairs_made operator from type types (l ∷ ls) (r ∷ rs) (suc count) h k =
    let left : length ls ≡ count = omega (arith, h) in
    let right : length rs ≡ count = omega (arith, k) in
    ap (λ o. then_do o (λ values. Done (operator_value operator from type l r ∷ values))) (pairs_made operator from type types ls rs count left right)

pair_made : (operator : Operator) (from type : Ty) (types : List Ty) (n : ℕ) (x y : Typed) (ls rs : List Val) → AreLong n (x ∷ y ∷ []) (ls ∷ rs ∷ []) → operator_values operator from type ls rs ≡ by_row (pair_value operator (from ∷ types) type) (ls ∷ rs ∷ [])
pair_made operator from type types n x y ls rs long =
    let count = row_count (some_many (x ∷ y ∷ [])) n in
    let each = operator_value operator from type in
    let all = are_for n (some_many (x ∷ y ∷ [])) (x ∷ y ∷ []) (ls ∷ rs ∷ []) (λ e. e) long in
    let found : common_length (length ls) (length rs) ≡ Some count = (λ i. common_length (long.0 i) (long.1.0 i)) ∙ common n x.many y.many in
    ap (λ o. at_length o (λ count. at_each each (stretched count ls) (stretched count rs))) found
    ∙ sym (by_row_is (pair_value operator (from ∷ types) type) n (x ∷ y ∷ []) (ls ∷ rs ∷ []) long
    ∙ pairs_made operator from type types (stretched count ls) (stretched count rs) count (stretched_length count ls all.0) (stretched_length count rs all.1.0))

-- ---- a value among one other

among_rows : (other : Val) (values : List Val) → each_row among_value (in_front values (in_front (replicate (length values) other) (replicate (length values) []))) ≡ Done (map (is_among_values (other ∷ [])) values)
among_rows other [] = refl
among_rows other (value ∷ values) = ap (λ o. then_do o (λ rest. Done (is_among_values (other ∷ []) value ∷ rest))) (among_rows other values)

among_one : (values others : List Val) → length others ≡ 1 → Done (map (is_among_values others) values) ≡ by_row among_value (values ∷ others ∷ [])
among_one values [] h = cc
among_one values (other ∷ []) h =
    let count = length values in
    sym (made_of_rows among_value count (values ∷ (other ∷ []) ∷ []) (common count true false) (inl refl, (inr refl, tt))
    ∙ ap (λ l. each_row among_value (in_front l (in_front (replicate count other) (replicate count [])))) (stretched_self values) ∙ among_rows other values)
among_one values (other ∷ second ∷ others) h = cc

among_makes : (types : List Ty) (values others : List Val) → length others ≡ 1 → is_in_values types (values ∷ others ∷ []) ≡ by_row (is_in_value types) (values ∷ others ∷ [])
among_makes (type ∷ ListType item ∷ []) values others one = refl
among_makes _ values others one = among_one values others one

is_in_makes : (n : ℕ) (t u : Typed) (types : List Ty) (columns : List (List Val)) → u.many ≡ false → AreLong n (t ∷ u ∷ []) columns → is_in_values types columns ≡ by_row (is_in_value types) columns
is_in_makes n t u types [] one long = absurd long
is_in_makes n t u types (values ∷ []) one long = absurd long.1
is_in_makes n t u types (values ∷ others ∷ []) one long = among_makes types values others (long.1.0 ∙ ap (λ b. row_count b n) one)
is_in_makes n t u types (values ∷ others ∷ third ∷ columns) one long = absurd long.1.1

-- ---- which may have a fault

ternary_never : (row : Row) → length row ≡ 3 → ternary_value row ≡ Fails → ⊥
ternary_never [] h e = cc
ternary_never (x ∷ []) h e = cc
ternary_never (x ∷ y ∷ []) h e = cc
ternary_never (x ∷ y ∷ z ∷ []) h e = cc
ternary_never (x ∷ y ∷ z ∷ w ∷ row) h e = cc

of_one_never : (function : FunctionExpr) (types : List Ty) → ((value : Val) → function_value function types (value ∷ []) ≡ Fails → ⊥) → (row : Row) → length row ≡ 1 → function_value function types row ≡ Fails → ⊥
of_one_never function types never [] h e = cc
of_one_never function types never (x ∷ []) h e = never x e
of_one_never function types never (x ∷ y ∷ row) h e = cc

filled_never : (types : List Ty) (row : Row) → length row ≡ 2 → function_value FillNull types row ≡ Fails → ⊥
filled_never types [] h e = cc
filled_never types (x ∷ []) h e = cc
filled_never types (x ∷ y ∷ []) h e = cc
filled_never types (x ∷ y ∷ z ∷ row) h e = cc

found_never : (found : Option Val) → found_item true found ≡ Fails → ⊥
found_never None e = cc
found_never (Some value) e = cc

place_never : (items : List Val) (place : ℤ) → item_at true items place ≡ Fails → ⊥
place_never items (pos place) e = found_never (slice_get items place) e
place_never items (negsuc before) e = cc

item_never : (row : Row) → list_item true row ≡ Fails → ⊥
item_never (ListValue items ∷ IntValue index ∷ []) e = place_never (items_in items) (slice_start index (length (items_in items))) e
item_never _ e = cc

field_never : (name : _) (types : List Ty) (row : Row) → field_value name types row ≡ Fails → ⊥
field_never name (StructType fields ∷ []) (StructValue parts ∷ []) e = cc
field_never name _ _ e = cc

list_never : (row : Row) → list_has row ≡ Fails → ⊥
list_never (NullValue ∷ items ∷ []) e = cc
list_never (TruthValue value ∷ ListValue items ∷ []) e = cc
list_never (IntValue value ∷ ListValue items ∷ []) e = cc
list_never (TextValue value ∷ ListValue items ∷ []) e = cc
list_never (ListValue value ∷ ListValue items ∷ []) e = cc
list_never (StructValue value ∷ ListValue items ∷ []) e = cc
list_never _ e = cc

among_never : (row : Row) → length row ≡ 2 → among_value row ≡ Fails → ⊥
among_never [] h e = cc
among_never (x ∷ []) h e = cc
among_never (x ∷ y ∷ []) h e = cc
among_never (x ∷ y ∷ z ∷ row) h e = cc

is_in_never : (types : List Ty) (row : Row) → length row ≡ 2 → is_in_value types row ≡ Fails → ⊥
is_in_never (type ∷ ListType item ∷ []) row h e = list_never row e
is_in_never _ row h e = among_never row h e

-- ---- operands that are literals have one value

abbrev pub LiteralsAreOne : List Bool → List Typed → Type 0
LiteralsAreOne (literal ∷ literals) (t ∷ ts) = (literal ≡ true → t.many ≡ false) × LiteralsAreOne literals ts
LiteralsAreOne literals typed = Unit {0}

literal_rule : (registry : Registry) (schema : Columns) (type : Ty) (value : Val) (below : List Typed) (ruling : Ruling) → rule registry schema (LiteralOp type value) below ≡ Ok ruling → ruling.own.many ≡ false
literal_rule registry schema type value [] ruling h = ruled_is (λ r. r.own.many ≡ false) (literal_taken type value) false ruling h (λ taken e. refl)
literal_rule registry schema type value (x ∷ xs) ruling h = cc

literal_one : (registry : Registry) (schema : Columns) (t : Expression) (typed : Typed) → typing registry schema t ≡ Ok typed → is_literal (top_op t) ≡ true → typed.many ≡ false
literal_one registry schema (node (LiteralOp type value) ts) typed h s =
    let p = typed_parts registry schema (LiteralOp type value) ts typed h in
    sym (ap (λ (own : Typed). own.many) p.is) ∙ literal_rule registry schema type value p.below p.ruling p.rules
literal_one registry schema (node _ ts) typed h s = cc

pub literals_are_one : (registry : Registry) (schema : Columns) (ts : Trees Op) (below : List Typed) → typing_all registry schema ts ≡ Ok below → LiteralsAreOne (literals ts) below
literals_are_one registry schema no_more below h = tt
literals_are_one registry schema (more t ts) below h =
    by_children (LiteralsAreOne (literals (more t ts))) _ _ below h (λ own rest first others. (literal_one registry schema t own first, literals_are_one registry schema ts rest others))

-- ---- there are many values where some operand has many

many_kept : (own : Ty) (typed : List Typed) (targets : List Ty) → AllBecome own (types_of typed) targets → some_many (typed_to typed targets) ≡ some_many typed
many_kept own [] targets becomes = refl
many_kept own (t ∷ ts) [] becomes = absurd becomes
many_kept own (t ∷ ts) (target ∷ targets) becomes = ap (λ b. t.many || b) (many_kept own ts targets becomes.1)

many_to : (signature : Signature) (typed : List Typed) (found : Option (List Ty)) (ruling : Ruling) → signature.many ≡ WhereAny → AllBecome ruling.own.type (types_of typed) ruling.operands → signed_to signature typed found ≡ Ok ruling → ruling.own.many ≡ some_many typed
many_to signature typed None ruling any becomes h = cc
many_to signature typed (Some targets) ruling any becomes h =
    let same = ok_same (signed_to signature typed (Some targets)) (record { operands = targets; own = own_over signature (typed_to typed targets) }) ruling refl h in
    sym (ap (λ (r : Ruling). r.own.many) same) ∙ ap (λ m. many_of m (typed_to typed targets)) any
    ∙ many_kept ruling.own.type typed targets (subst (AllBecome ruling.own.type (types_of typed)) (sym (ap (λ (r : Ruling). r.operands) same)) becomes)

many_sharing : (signature : Signature) (typed : List Typed) (found : Result Ty ErrorKind) (ruling : Ruling) → signature.many ≡ WhereAny → AllBecome ruling.own.type (types_of typed) ruling.operands → signed_sharing signature typed found ≡ Ok ruling → ruling.own.many ≡ some_many typed
many_sharing signature typed (Err kind) ruling any becomes h = cc
many_sharing signature typed (Ok shared) ruling any becomes h = many_to signature typed (taken_from shared signature 0 typed) ruling any becomes h

many_signed : (found : Result Signature ErrorKind) (typed : List Typed) (ruling : Ruling) → ((signature : Signature) → found ≡ Ok signature → signature.many ≡ WhereAny) → AllBecome ruling.own.type (types_of typed) ruling.operands → signed found typed ≡ Ok ruling → ruling.own.many ≡ some_many typed
many_signed (Err kind) typed ruling any becomes h = cc
many_signed (Ok signature) typed ruling any becomes h = many_sharing signature typed (shared_type signature.sharing typed) ruling (any signature refl) becomes h

told : (signature own : Signature) → (let found : Result Signature ErrorKind = Ok signature in found ≡ Ok own) → own.many ≡ signature.many
told signature own h = sym (ap (λ (s : Signature). s.many) (ok_same (Ok signature) signature own refl h))

horizontal_many : (count : ℕ) (signature : Signature) → horizontal_signature count ≡ Ok signature → signature.many ≡ WhereAny
horizontal_many count signature h = told _ signature h

-- ---- by op

-- it goes row by row, with a fault only where it isn't harmless
pub record GoesByRow (registry : Registry) (op : Op) (operands : List Bool) (below : List Typed) (ruling : Ruling) : Type 0 where
  pub value : Row → Converted
  pub many : ruling.own.many ≡ some_many below
  pub applies : (frame : Frame) (ms : List Meaning) (rows : List ℕ) → applied registry frame op ruling ms rows ≡ then_do (given ms rows) (kernel registry frame rows op ruling.operands ruling.own.type)
  pub makes : (frame : Frame) (rows : List ℕ) (n : ℕ) (columns : List (List Val)) → AreLong n below columns → kernel registry frame rows op ruling.operands ruling.own.type columns ≡ by_row value columns
  pub faults : (row : Row) → length row ≡ length below → value row ≡ Fails → is_own_harmless op operands ≡ false

or_none : (b : Bool) → b ≡ (b || false)
or_none true = refl
or_none false = refl

module _ (registry : Registry) (schema : Columns) where
  abbrev Goes : Op → List Bool → List Typed → Ruling → Type 0
  Goes op operands below ruling = GoesByRow registry op operands below ruling

  -- ---- literals, operators, casts and aliases

  no_targets : (own : Ty) (targets : List Ty) → AllBecome own [] targets → targets ≡ []
  no_targets own [] becomes = refl
  no_targets own (target ∷ targets) becomes = absurd becomes

  literal_makes : (frame : Frame) (rows : List ℕ) (own : Ty) (value : Val) (type : Ty) (n : ℕ) (columns : List (List Val)) → AreLong n [] columns → kernel registry frame rows (LiteralOp own value) [] type columns ≡ by_row (λ row. Gives value) columns
  literal_makes frame rows own value type n [] long = refl
  literal_makes frame rows own value type n (column ∷ columns) long = absurd long

  literal_goes : (type : Ty) (value : Val) (operands : List Bool) (below : List Typed) (ruling : Ruling) → rule registry schema (LiteralOp type value) below ≡ Ok ruling → AllBecome ruling.own.type (types_of below) ruling.operands → Goes (LiteralOp type value) operands below ruling
  literal_goes type value operands [] ruling h becomes = record {
    value = λ row. Gives value;
    many = literal_rule registry schema type value [] ruling h;
    applies = λ frame ms rows. refl;
    makes = λ frame rows n columns long.
        ap (λ targets. kernel registry frame rows (LiteralOp type value) targets ruling.own.type columns) (no_targets ruling.own.type ruling.operands becomes) ∙ literal_makes frame rows type value ruling.own.type n columns long;
    faults = λ row none e. cc;
  }
  literal_goes type value operands (x ∷ below) ruling h becomes = cc

  binary_makes : (frame : Frame) (rows : List ℕ) (operator : Operator) (own type : Ty) (x y : Typed) (targets : List Ty) (n : ℕ) (columns : List (List Val)) → AllBecome own (x.type ∷ y.type ∷ []) targets → AreLong n (x ∷ y ∷ []) columns
      → kernel registry frame rows (BinaryOp operator) targets type columns ≡ by_row (pair_value operator targets type) columns
  binary_makes frame rows operator own type x y [] n columns becomes long = absurd becomes
  binary_makes frame rows operator own type x y (from ∷ types) n [] becomes long = absurd long
  binary_makes frame rows operator own type x y (from ∷ types) n (ls ∷ []) becomes long = absurd long.1
  binary_makes frame rows operator own type x y (from ∷ types) n (ls ∷ rs ∷ []) becomes long = pair_made operator from type types n x y ls rs long
  binary_makes frame rows operator own type x y (from ∷ types) n (ls ∷ rs ∷ third ∷ columns) becomes long = absurd long.1.1

  pair_never : (operator : Operator) (own type from : Ty) (types targets : List Ty) → AllBecome own (from ∷ types) targets → (row : Row) → length row ≡ 2 → pair_value operator targets type row ≡ Fails → ⊥
  pair_never operator own type from types [] becomes row h e = absurd becomes
  pair_never operator own type from types (target ∷ targets) becomes [] h e = cc
  pair_never operator own type from types (target ∷ targets) becomes (x ∷ []) h e = cc
  pair_never operator own type from types (target ∷ targets) becomes (x ∷ y ∷ []) h e = cc
  pair_never operator own type from types (target ∷ targets) becomes (x ∷ y ∷ z ∷ row) h e = cc

  binary_goes : (operator : Operator) (operands : List Bool) (below : List Typed) (ruling : Ruling) → rule registry schema (BinaryOp operator) below ≡ Ok ruling → AllBecome ruling.own.type (types_of below) ruling.operands → Goes (BinaryOp operator) operands below ruling
  binary_goes operator operands [] ruling h becomes = cc
  binary_goes operator operands (x ∷ []) ruling h becomes = cc
  binary_goes operator operands (x ∷ y ∷ []) ruling h becomes = record {
    value = pair_value operator ruling.operands ruling.own.type;
    many = ruled_is (λ r. r.own.many ≡ some_many (x ∷ y ∷ [])) (operator_types operator (x.type ∷ y.type ∷ [])) (some_many (x ∷ y ∷ [])) ruling h (λ taken e. refl);
    applies = λ frame ms rows. refl;
    makes = λ frame rows n columns long. binary_makes frame rows operator ruling.own.type ruling.own.type x y ruling.operands n columns becomes long;
    faults = λ row two e. absurd (pair_never operator ruling.own.type ruling.own.type x.type (y.type ∷ []) ruling.operands becomes row two e);
  }
  binary_goes operator operands (x ∷ y ∷ z ∷ below) ruling h becomes = cc

  cast_makes : (frame : Frame) (rows : List ℕ) (target : Ty) (options : CastOptions) (own type : Ty) (x : Typed) (targets : List Ty) (n : ℕ) (columns : List (List Val)) → AllBecome own (x.type ∷ []) targets → AreLong n (x ∷ []) columns
      → kernel registry frame rows (CastOp target options) targets type columns ≡ by_row (cast_value target options targets) columns
  cast_makes frame rows target options own type x [] n columns becomes long = absurd becomes
  cast_makes frame rows target options own type x (from ∷ []) n [] becomes long = absurd long
  cast_makes frame rows target options own type x (from ∷ []) n (values ∷ []) becomes long = cast_made from target options values
  cast_makes frame rows target options own type x (from ∷ []) n (values ∷ second ∷ columns) becomes long = absurd long.1
  cast_makes frame rows target options own type x (from ∷ next ∷ targets) n columns becomes long = absurd becomes.1

  -- only one that is strict may have a fault
  value_never : (from target : Ty) (options : CastOptions) (value : Val) → options ≢ Strict → (if same_type from target then Gives value else cast value from target options) ≡ Fails → ⊥
  value_never from target options value lax e =
      elim (same_type from target) as (λ b. cond b (Gives value) (cast value from target options) ≡ Fails → ⊥) [ true ↦ λ e. cc | false ↦ λ e. cast_never_fails value from target options lax e ] e

  cast_never : (target : Ty) (options : CastOptions) (own : Ty) (x : Typed) (targets : List Ty) → options ≢ Strict → AllBecome own (x.type ∷ []) targets → (row : Row) → length row ≡ 1 → cast_value target options targets row ≡ Fails → ⊥
  cast_never target options own x [] lax becomes row h e = absurd becomes
  cast_never target options own x (from ∷ targets) lax becomes [] h e = cc
  cast_never target options own x (from ∷ targets) lax becomes (value ∷ []) h e = value_never from target options value lax e
  cast_never target options own x (from ∷ targets) lax becomes (value ∷ second ∷ row) h e = cc

  cast_faults : (target : Ty) (options : CastOptions) (operands : List Bool) (own : Ty) (x : Typed) (targets : List Ty) → AllBecome own (x.type ∷ []) targets → (row : Row) → length row ≡ 1 → cast_value target options targets row ≡ Fails → is_own_harmless (CastOp target options) operands ≡ false
  cast_faults target Strict operands own x targets becomes row h e = refl
  cast_faults target NonStrict operands own x targets becomes row h e = absurd (cast_never target NonStrict own x targets (λ e. cc) becomes row h e)
  cast_faults target Overflowing operands own x targets becomes row h e = absurd (cast_never target Overflowing own x targets (λ e. cc) becomes row h e)

  cast_goes : (target : Ty) (options : CastOptions) (operands : List Bool) (below : List Typed) (ruling : Ruling) → rule registry schema (CastOp target options) below ≡ Ok ruling → AllBecome ruling.own.type (types_of below) ruling.operands → Goes (CastOp target options) operands below ruling
  cast_goes target options operands [] ruling h becomes = cc
  cast_goes target options operands (x ∷ []) ruling h becomes = record {
    value = cast_value target options ruling.operands;
    many = ruled_is (λ r. r.own.many ≡ x.many) (cast_taken target (type_alone x.type)) x.many ruling h (λ taken e. refl) ∙ or_none x.many;
    applies = λ frame ms rows. refl;
    makes = λ frame rows n columns long. cast_makes frame rows target options ruling.own.type ruling.own.type x ruling.operands n columns becomes long;
    faults = λ row single e. cast_faults target options operands ruling.own.type x ruling.operands becomes row single e;
  }
  cast_goes target options operands (x ∷ y ∷ below) ruling h becomes = cc

  alias_makes : (frame : Frame) (rows : List ℕ) (name : Name) (types : List Ty) (type : Ty) (x : Typed) (n : ℕ) (columns : List (List Val)) → AreLong n (x ∷ []) columns → kernel registry frame rows (AliasOp name) types type columns ≡ by_row (of_one (λ value. Gives value)) columns
  alias_makes frame rows name types type x n [] long = absurd long
  alias_makes frame rows name types type x n (values ∷ []) long = one_made (λ value. Gives value) (λ values. Done values) refl (λ value values. refl) values
  alias_makes frame rows name types type x n (values ∷ second ∷ columns) long = absurd long.1

  one_never : (row : Row) → length row ≡ 1 → of_one (λ value. Gives value) row ≡ Fails → ⊥
  one_never [] h e = cc
  one_never (value ∷ []) h e = cc
  one_never (value ∷ second ∷ row) h e = cc

  alias_goes : (name : Name) (operands : List Bool) (below : List Typed) (ruling : Ruling) → rule registry schema (AliasOp name) below ≡ Ok ruling → Goes (AliasOp name) operands below ruling
  alias_goes name operands [] ruling h = cc
  alias_goes name operands (x ∷ []) ruling h = record {
    value = of_one (λ value. Gives value);
    many = sym (ap (λ (r : Ruling). r.own.many) (ok_same (rule registry schema (AliasOp name) (x ∷ [])) (aliased x) ruling refl h)) ∙ or_none x.many;
    applies = λ frame ms rows. refl;
    makes = λ frame rows n columns long. alias_makes frame rows name ruling.operands ruling.own.type x n columns long;
    faults = λ row single e. absurd (one_never row single e);
  }
  alias_goes name operands (x ∷ y ∷ below) ruling h = cc

  -- ---- ternaries and functions

  ternary_goes : (operands : List Bool) (below : List Typed) (ruling : Ruling) → rule registry schema TernaryOp below ≡ Ok ruling → AllBecome ruling.own.type (types_of below) ruling.operands → Goes TernaryOp operands below ruling
  ternary_goes operands [] ruling h becomes = cc
  ternary_goes operands (t ∷ []) ruling h becomes = cc
  ternary_goes operands (t ∷ p ∷ []) ruling h becomes = cc
  ternary_goes operands (t ∷ p ∷ f ∷ []) ruling h becomes = record {
    value = ternary_value;
    many = many_signed (signature TernaryOp 3) (t ∷ p ∷ f ∷ []) ruling (λ own e. told _ own e) becomes h;
    applies = λ frame ms rows. refl;
    makes = λ frame rows n columns long. refl;
    faults = λ row three e. absurd (ternary_never row three e);
  }
  ternary_goes operands (t ∷ p ∷ f ∷ x ∷ below) ruling h becomes = cc

  function_goes : (function : FunctionExpr) (recorded : List Label) (operands : List Bool) (below : List Typed) (ruling : Ruling) → rule registry schema (FunctionOp function recorded) below ≡ Ok ruling → AllBecome ruling.own.type (types_of below) ruling.operands
      → is_own_elementwise (FunctionOp function recorded) operands ≡ true → LiteralsAreOne operands below → Goes (FunctionOp function recorded) operands below ruling
  function_goes IsNull recorded operands [] ruling h becomes s one = cc
  function_goes IsNull recorded operands (x ∷ []) ruling h becomes s one = record {
    value = function_value IsNull ruling.operands;
    many = many_signed (function_signature IsNull 1) (x ∷ []) ruling (λ own e. told _ own e) becomes h;
    applies = λ frame ms rows. refl;
    makes = λ frame rows n columns long. refl;
    faults = λ row single e. absurd (of_one_never IsNull ruling.operands (λ value e. cc) row single e);
  }
  function_goes IsNull recorded operands (x ∷ y ∷ below) ruling h becomes s one = cc
  function_goes IsNotNull recorded operands [] ruling h becomes s one = cc
  function_goes IsNotNull recorded operands (x ∷ []) ruling h becomes s one = record {
    value = function_value IsNotNull ruling.operands;
    many = many_signed (function_signature IsNotNull 1) (x ∷ []) ruling (λ own e. told _ own e) becomes h;
    applies = λ frame ms rows. refl;
    makes = λ frame rows n columns long. refl;
    faults = λ row single e. absurd (of_one_never IsNotNull ruling.operands (λ value e. cc) row single e);
  }
  function_goes IsNotNull recorded operands (x ∷ y ∷ below) ruling h becomes s one = cc
  function_goes FillNull recorded operands [] ruling h becomes s one = cc
  function_goes FillNull recorded operands (x ∷ []) ruling h becomes s one = cc
  function_goes FillNull recorded operands (x ∷ y ∷ []) ruling h becomes s one = record {
    value = function_value FillNull ruling.operands;
    many = many_signed (function_signature FillNull 2) (x ∷ y ∷ []) ruling (λ own e. told _ own e) becomes h;
    applies = λ frame ms rows. refl;
    makes = λ frame rows n columns long. refl;
    faults = λ row two e. absurd (filled_never ruling.operands row two e);
  }
  function_goes FillNull recorded operands (x ∷ y ∷ z ∷ below) ruling h becomes s one = cc
  function_goes (ListGet flag) recorded operands [] ruling h becomes s one = cc
  function_goes (ListGet flag) recorded operands (x ∷ []) ruling h becomes s one = cc
  function_goes (ListGet true) recorded operands (x ∷ y ∷ []) ruling h becomes s one = record {
    value = function_value (ListGet true) ruling.operands;
    many = many_signed (function_signature (ListGet true) 2) (x ∷ y ∷ []) ruling (λ own e. told _ own e) becomes h;
    applies = λ frame ms rows. refl;
    makes = λ frame rows n columns long. refl;
    faults = λ row two e. absurd (item_never row e);
  }
  function_goes (ListGet false) recorded operands (x ∷ y ∷ []) ruling h becomes s one = record {
    value = function_value (ListGet false) ruling.operands;
    many = many_signed (function_signature (ListGet false) 2) (x ∷ y ∷ []) ruling (λ own e. told _ own e) becomes h;
    applies = λ frame ms rows. refl;
    makes = λ frame rows n columns long. refl;
    faults = λ row two e. refl;
  }
  function_goes (ListGet flag) recorded operands (x ∷ y ∷ z ∷ below) ruling h becomes s one = cc
  function_goes (FieldByName name) recorded operands [] ruling h becomes s one = cc
  function_goes (FieldByName name) recorded operands (x ∷ []) ruling h becomes s one = record {
    value = function_value (FieldByName name) ruling.operands;
    many = ruled_is (λ r. r.own.many ≡ x.many) (field_taken name (type_alone x.type)) x.many ruling h (λ taken e. refl) ∙ or_none x.many;
    applies = λ frame ms rows. refl;
    makes = λ frame rows n columns long. refl;
    faults = λ row single e. absurd (field_never name ruling.operands row e);
  }
  function_goes (FieldByName name) recorded operands (x ∷ y ∷ below) ruling h becomes s one = cc
  function_goes IsIn recorded operands [] ruling h becomes s one = cc
  function_goes IsIn recorded operands (x ∷ []) ruling h becomes s one = cc
  function_goes IsIn recorded [] (x ∷ y ∷ []) ruling h becomes s one = cc
  function_goes IsIn recorded (value ∷ []) (x ∷ y ∷ []) ruling h becomes s one = cc
  function_goes IsIn recorded (value ∷ among ∷ operands) (x ∷ y ∷ []) ruling h becomes s one = record {
    value = is_in_value ruling.operands;
    many = ruled_is (λ r. r.own.many ≡ some_many (x ∷ y ∷ [])) (is_in_taken (type_alone x.type) (type_alone y.type)) (some_many (x ∷ y ∷ [])) ruling h (λ taken e. refl);
    applies = λ frame ms rows. refl;
    makes = λ frame rows n columns long. is_in_makes n x y ruling.operands columns (one.1.0 s) long;
    faults = λ row two e. absurd (is_in_never ruling.operands row two e);
  }
  function_goes IsIn recorded operands (x ∷ y ∷ z ∷ below) ruling h becomes s one = cc
  function_goes ShiftAndFill recorded operands below ruling h becomes s one = cc
  function_goes AllHorizontal recorded operands below ruling h becomes s one = record {
    value = function_value AllHorizontal ruling.operands;
    many = many_signed (horizontal_signature (length below)) below ruling (horizontal_many (length below)) becomes h;
    applies = λ frame ms rows. refl;
    makes = λ frame rows n columns long. refl;
    faults = λ row many e. cc;
  }
  function_goes AnyHorizontal recorded operands below ruling h becomes s one = record {
    value = function_value AnyHorizontal ruling.operands;
    many = many_signed (horizontal_signature (length below)) below ruling (horizontal_many (length below)) becomes h;
    applies = λ frame ms rows. refl;
    makes = λ frame rows n columns long. refl;
    faults = λ row many e. cc;
  }
  function_goes (FieldByIndex place) recorded operands below ruling h becomes s one = cc

  -- what is elementwise and no column goes row by row
  pub row_goes : (op : Op) (operands : List Bool) (below : List Typed) (ruling : Ruling) → rule registry schema op below ≡ Ok ruling → AllBecome ruling.own.type (types_of below) ruling.operands → is_own_elementwise op operands ≡ true → is_no_column op ≡ true
      → LiteralsAreOne operands below → Goes op operands below ruling
  row_goes (LiteralOp type value) operands below ruling h becomes s other one = literal_goes type value operands below ruling h becomes
  row_goes (BinaryOp operator) operands below ruling h becomes s other one = binary_goes operator operands below ruling h becomes
  row_goes (CastOp target options) operands below ruling h becomes s other one = cast_goes target options operands below ruling h becomes
  row_goes (AliasOp name) operands below ruling h becomes s other one = alias_goes name operands below ruling h
  row_goes TernaryOp operands below ruling h becomes s other one = ternary_goes operands below ruling h becomes
  row_goes (FunctionOp function recorded) operands below ruling h becomes s other one = function_goes function recorded operands below ruling h becomes s one
  row_goes _ operands below ruling h becomes s other one = cc
