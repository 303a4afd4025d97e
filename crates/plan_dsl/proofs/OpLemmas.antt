-- What the rule of each op keeps: operands can become of the types to which they are taken, what was taken stays, the own
-- type is one of columns or a number's, and over operands of the types to which they are taken the node means its own type.
-- All else that is said of ops follows.
use Rattle.std.proofs.Common.{◌≡◌, length, true, false, ◌||◌, cond, List, [], ◌∷◌, Option, Some, None, is_some, Ok, Err, refl, sym, ap, ◌∙◌, subst}
use Rattle.std.specs.Prelude.{ℤ}
use Rattle.std.proofs.lemmas.Bool.{and_parts, and_from, or_parts}
use Rattle.plan_types.specs.Types.{Ty, Truth, StructType, Untyped, Fields, is_known}
use Rattle.plan_types.specs.Schemas.{Name, Columns, type_at}
use Rattle.plan_types.specs.Values.{Val, IntValue, in_range}
use Rattle.plan_types.specs.Outcomes.{Meets}
use Rattle.plan_types.specs.Casts.{can_cast}
use Rattle.plan_types.specs.CommonTypes.{type_alone}
use Rattle.plan_types.specs.Frames.{Frame, IsFrame}
use Rattle.plan_types.specs.declared.error.ErrorKind.TheVariants.{InvalidOperation}
use Rattle.plan_types.specs.declared.dtype.CastOptions.{CastOptions}
use Rattle.plan_types.proofs.CommonLemmas.{alone_known, alone_itself, alone_same}
use Rattle.plan_types.proofs.ValueLemmas.{int_eq_exact, cast_fits, column_fits}
use Rattle.plan_dsl.specs.declared.operator.Operator.{Operator}
use Rattle.plan_dsl.specs.declared.sort_options.SortOptions.{SortOptions}
use Rattle.plan_dsl.specs.Registry.{Registry}
use Rattle.plan_dsl.specs.Ops.{Op, ColumnOp, LiteralOp, BinaryOp, CastOp, LenOp, SliceOp, AliasOp, ExplodeOp, GatherOp, FilterOp, SortOp, SortByOp, AggOp, WindowOp, TernaryOp, FunctionOp}
use Rattle.plan_dsl.specs.Literals.{is_literal, is_literal_of}
use Rattle.plan_dsl.specs.OperatorTypes.{Taken, operator_types, pair_to}
use Rattle.plan_dsl.specs.Signatures.{signature}
use Rattle.plan_dsl.specs.Typing.{Typed, Ruling, aliased, column_type, literal_taken, cast_taken, own_over, types_of, typed_to, ruled_as, rule, signed}
use Rattle.plan_dsl.specs.Kernels.{Meaning, kernel}
use Rattle.plan_dsl.specs.Meaning.{applied}
use Rattle.plan_dsl.specs.Laws.{AreOf}
use Rattle.plan_dsl.proofs.TypingLemmas.{ok_same, ok_where, ruling_of, ruled_is}
use Rattle.plan_dsl.proofs.ColumnLemmas.{on_columns, cast_column_fits, operator_values_fit, literal_fits}
use Rattle.plan_dsl.proofs.GivenLemmas.{AllMean, GoesByColumns, MeansType, by_columns}
use Rattle.plan_dsl.proofs.OperatorLemmas.{TakesOperands, operands_taken, pair_becomes, pair_stays}
use Rattle.plan_dsl.proofs.SignatureLemmas.{AllBecome, makes, passes, KernelGives, OnAsked, OnSigned, alone_becomes, alone_casts, is_signed, target_known}
use Rattle.plan_dsl.proofs.AggregateLemmas.{aggregate_gives}
use Rattle.plan_dsl.proofs.KindLemmas.{len_gives, slice_gives, explode_gives, gather_gives, filter_gives, sort_gives, sort_by_gives}
use Rattle.plan_dsl.specs.declared.function_expr.FunctionExpr.{FunctionExpr}
use Rattle.plan_dsl.specs.declared.function_expr.FunctionExpr.TheVariants.{AllHorizontal, AnyHorizontal, IsNull, IsNotNull, FillNull, IsIn, ShiftAndFill, ListGet, FieldByName, FieldByIndex}
use Rattle.plan_dsl.specs.FunctionTypes.{field_found, field_taken, field_type, is_in_taken}
use Rattle.plan_dsl.specs.Labels.{Label}
use Rattle.plan_dsl.proofs.FunctionLemmas.{ternary_gives, function_gives}
use Rattle.plan_dsl.proofs.FunctionRuleLemmas.{field_fits, field_known, is_in_fit, takes_member}
use Rattle.plan_dsl.proofs.WindowLemmas.{window_gives}

-- a node of a number's own type is that number, as a literal
pub record IsNumberOp (number : ℤ) (op : Op) (typed : List Typed) (own : Typed) : Type 0 where
  pub type_is : own.type ≡ Untyped number
  pub op_is : op ≡ LiteralOp (Untyped number) (IntValue number)
  pub bare : typed ≡ []
  pub single : own.many ≡ false
  pub literal : is_literal (Untyped number) (IntValue number) ≡ true

-- a node of an alias is typed as its operand is
pub record IsAliasOp (op : Op) (typed : List Typed) (own : Typed) : Type 0 where
  pub name : Name
  pub op_is : op ≡ AliasOp name
  pub over : typed ≡ own ∷ []

-- the own type is one of columns, that number's, or the operand's
pub data HasOwnType (op : Op) (typed : List Typed) (own : Typed) : Type 0 where
  of_columns : (known : is_known own.type ≡ true) → HasOwnType op typed own
  of_number : (number : ℤ) (is : IsNumberOp number op typed own) → HasOwnType op typed own
  of_operand : (is : IsAliasOp op typed own) → HasOwnType op typed own

pub record KeepsRule (registry : Registry) (schema : Columns) (op : Op) (typed : List Typed) (ruling : Ruling) : Type 0 where
  pub becomes : AllBecome ruling.own.type (types_of typed) ruling.operands
  pub stays : rule registry schema op (typed_to typed ruling.operands) ≡ Ok ruling
  pub own : HasOwnType op typed ruling.own
  pub gives : (frame : Frame) → frame.schema ≡ schema → IsFrame frame → (operands : List Meaning) → AllMean (typed_to typed ruling.operands) operands → MeansType ruling.own (applied registry frame op ruling operands)

-- ---- columns

column_keeps : (registry : Registry) (schema : Columns) (name : Name) (found : Option Ty) (taken : Taken) → type_at schema name ≡ found → column_type found ≡ Ok taken → KeepsRule registry schema (ColumnOp name) [] (ruling_of taken true)
column_keeps registry schema name None taken at h = cc
column_keeps registry schema name (Some type) taken at h =
    let p = ok_where (is_known type) _ taken InvalidOperation h in
    subst (λ (t : Taken). KeepsRule registry schema (ColumnOp name) [] (ruling_of t true)) p.1 (record {
      becomes = tt;
      stays = ap (λ found. ruled_as (column_type found) true) at ∙ ap (λ b. ruled_as (cond b (Ok (record { operands = []; type = type })) (Err InvalidOperation)) true) p.0;
      own = of_columns p.0;
      gives = λ frame same of. by_columns registry frame (ColumnOp name) (λ registry frame ruling operands rows. refl) [] (ruling_of (record { operands = []; type = type }) true) (λ rows. on_columns [] (λ columns. Meets (AreOf (record { type = type; many = true })) (kernel registry frame rows (ColumnOp name) [] type columns)) (record { fitting = column_fits frame name type of (ap (λ s. type_at s name) same ∙ at) rows; single = λ one. cc }));
    })

-- ---- literals

-- what a literal of a number's own type is
number_literal : (number : ℤ) (value : Val) → is_literal (Untyped number) value ≡ true → value ≡ IntValue number
number_literal number (IntValue other) h =
    let parts = and_parts (in_range (Untyped number) other) (is_some (type_alone (Untyped number))) h in
    sym (ap IntValue (int_eq_exact number other parts.0))
number_literal number _ h = cc

pub alone_is_some : (o : Option Ty) → is_some o ≡ true → (own : Ty) × (o ≡ Some own)
alone_is_some None h = cc
alone_is_some (Some own) h = (own, refl)

literal_own : (type : Ty) (value : Val) → is_literal type value ≡ true → HasOwnType (LiteralOp type value) [] (record { type = type; many = false })
literal_own (Untyped number) value h =
    let same = number_literal number value h in
    of_number number (record { type_is = refl; op_is = ap (LiteralOp (Untyped number)) same; bare = refl; single = refl; literal = subst (λ v. is_literal (Untyped number) v ≡ true) same h })
literal_own type value h =
    let alone = alone_is_some (type_alone type) (and_parts (is_literal_of type value) (is_some (type_alone type)) h).1 in
    of_columns (subst (λ t. is_known t ≡ true) (alone_same type alone.0 alone.1 (λ number e. cc)) (alone_known type alone.0 alone.1))

literal_keeps : (registry : Registry) (schema : Columns) (type : Ty) (value : Val) (taken : Taken) → literal_taken type value ≡ Ok taken → KeepsRule registry schema (LiteralOp type value) [] (ruling_of taken false)
literal_keeps registry schema type value taken h =
    let p = ok_where (is_literal type value) _ taken InvalidOperation h in
    let fit = literal_fits type value (and_parts (is_literal_of type value) (is_some (type_alone type)) p.0).0 in
    subst (λ (t : Taken). KeepsRule registry schema (LiteralOp type value) [] (ruling_of t false)) p.1 (record {
      becomes = tt;
      stays = ap (λ b. ruled_as (cond b (Ok (record { operands = []; type = type })) (Err InvalidOperation)) false) p.0;
      own = literal_own type value p.0;
      gives = λ frame same of. by_columns registry frame (LiteralOp type value) (λ registry frame ruling operands rows. refl) [] (ruling_of (record { operands = []; type = type }) false) (λ rows. on_columns [] (λ columns. Meets (AreOf (record { type = type; many = false })) (kernel registry frame rows (LiteralOp type value) [] type columns)) (record { fitting = and_from _ true fit refl; single = λ one. refl }));
    })

-- ---- operators

binary_keeps : (registry : Registry) (schema : Columns) (operator : Operator) (left right : Typed) (taken : Taken) → TakesOperands operator left.type right.type taken → KeepsRule registry schema (BinaryOp operator) (left ∷ right ∷ []) (ruling_of taken (left.many || (right.many || false)))
binary_keeps registry schema operator left right taken t =
    let pair = t.pair in
    let many = left.many || (right.many || false) in
    let can = pair_becomes operator left.type right.type taken t in
    subst (λ (t : Taken). KeepsRule registry schema (BinaryOp operator) (left ∷ right ∷ []) (ruling_of t many)) pair.is (record {
      becomes = (makes can.0, (makes can.1, tt));
      stays = ap (λ found. ruled_as found many) (pair_stays operator t.left_own t.right_own taken pair);
      own = of_columns pair.known;
      gives = λ frame same of. by_columns registry frame (BinaryOp operator) (λ registry frame ruling operands rows. refl) (record { type = pair.left; many = left.many } ∷ record { type = pair.right; many = right.many } ∷ []) (ruling_of (pair_to pair.left pair.right pair.type) many) (λ rows. on_columns (record { type = pair.left; many = left.many } ∷ record { type = pair.right; many = right.many } ∷ []) (λ columns. Meets (AreOf (record { type = pair.type; many = many })) (kernel registry frame rows (BinaryOp operator) (pair.left ∷ pair.right ∷ []) pair.type columns)) (λ ls l rs r.
          operator_values_fit operator pair.left pair.right pair.type many ls rs pair.fitting l.fitting r.fitting (λ one. let parts = or_parts left.many (right.many || false) one in (l.single parts.0, r.single (or_parts right.many false parts.1).0))));
    })

-- ---- casts

cast_keeps : (registry : Registry) (schema : Columns) (target : Ty) (options : CastOptions) (from : Typed) (found : Option Ty) (taken : Taken) → type_alone from.type ≡ found → cast_taken target found ≡ Ok taken → KeepsRule registry schema (CastOp target options) (from ∷ []) (ruling_of taken from.many)
cast_keeps registry schema target options from None taken alone h = cc
cast_keeps registry schema target options from (Some own) taken alone h =
    let p = ok_where (can_cast own target) _ taken InvalidOperation h in
    subst (λ (t : Taken). KeepsRule registry schema (CastOp target options) (from ∷ []) (ruling_of t from.many)) p.1 (record {
      becomes = (makes (alone_becomes from.type own alone), tt);
      stays = ap (λ found. ruled_as (cast_taken target found) from.many) (alone_itself own (alone_known from.type own alone)) ∙ ap (λ b. ruled_as (cond b (Ok (record { operands = own ∷ []; type = target })) (Err InvalidOperation)) from.many) p.0;
      own = of_columns (target_known own target p.0);
      gives = λ frame same of. by_columns registry frame (CastOp target options) (λ registry frame ruling operands rows. refl) (record { type = own; many = from.many } ∷ []) (ruling_of (record { operands = own ∷ []; type = target }) from.many) (λ rows. on_columns (record { type = own; many = from.many } ∷ []) (λ columns. Meets (AreOf (record { type = target; many = from.many })) (kernel registry frame rows (CastOp target options) (own ∷ []) target columns)) (λ column fit.
          cast_column_fits own target options from.many column (λ value fit. cast_fits value own target options fit p.0) fit));
    })

-- ---- functions without a signature

is_in_keeps : (registry : Registry) (schema : Columns) (recorded : List Label) (value among : Typed) (found other : Option Ty) (taken : Taken) → type_alone value.type ≡ found → type_alone among.type ≡ other → is_in_taken found other ≡ Ok taken → KeepsRule registry schema (FunctionOp IsIn recorded) (value ∷ among ∷ []) (ruling_of taken (value.many || (among.many || false)))
is_in_keeps registry schema recorded value among None other taken alone beside h = cc
is_in_keeps registry schema recorded value among (Some a) None taken alone beside h = cc
is_in_keeps registry schema recorded value among (Some a) (Some b) taken alone beside h =
    let m = takes_member a b taken (alone_known value.type a alone) (alone_known among.type b beside) h in
    let many = value.many || (among.many || false) in
    let own : List Typed = record { type = m.left; many = value.many } ∷ record { type = m.right; many = among.many } ∷ [] in
    subst (λ (t : Taken). KeepsRule registry schema (FunctionOp IsIn recorded) (value ∷ among ∷ []) (ruling_of t many)) m.is (record {
      becomes = (makes (alone_casts value.type a m.left alone m.left_casts), (makes (alone_casts among.type b m.right beside m.right_casts), tt));
      stays = (λ i. ruled_as (is_in_taken (alone_itself m.left m.left_known i) (alone_itself m.right m.right_known i)) many) ∙ ap (λ found. ruled_as found many) m.stays;
      own = of_columns refl;
      gives = λ frame same of. by_columns registry frame (FunctionOp IsIn recorded) (λ registry frame ruling operands rows. refl) own (ruling_of (pair_to m.left m.right Truth) many) (λ rows. on_columns own (λ columns. Meets (AreOf (record { type = Truth; many = many })) (kernel registry frame rows (FunctionOp IsIn recorded) (m.left ∷ m.right ∷ []) Truth columns)) (λ ls l rs r. is_in_fit m.left m.right value.many among.many ls rs l r));
    })

field_keeps : (registry : Registry) (schema : Columns) (name : Name) (recorded : List Label) (from : Typed) (fields : Fields) (found : Option Ty) (taken : Taken) → type_alone from.type ≡ Some (StructType fields) → field_type name fields ≡ found → field_found (StructType fields) found ≡ Ok taken → KeepsRule registry schema (FunctionOp (FieldByName name) recorded) (from ∷ []) (ruling_of taken from.many)
field_keeps registry schema name recorded from fields None taken alone is h = cc
field_keeps registry schema name recorded from fields (Some type) taken alone is h =
    let known = alone_known from.type (StructType fields) alone in
    let own : List Typed = record { type = StructType fields; many = from.many } ∷ [] in
    subst (λ (t : Taken). KeepsRule registry schema (FunctionOp (FieldByName name) recorded) (from ∷ []) (ruling_of t from.many)) (ok_same (field_found (StructType fields) (Some type)) (record { operands = StructType fields ∷ []; type = type }) taken refl h) (record {
      becomes = (makes (alone_becomes from.type (StructType fields) alone), tt);
      stays = ap (λ found. ruled_as (field_taken name found) from.many) (alone_itself (StructType fields) known) ∙ ap (λ found. ruled_as (field_found (StructType fields) found) from.many) is;
      own = of_columns (field_known name fields type known is);
      gives = λ frame same of. by_columns registry frame (FunctionOp (FieldByName name) recorded) (λ registry frame ruling operands rows. refl) own (ruling_of (record { operands = StructType fields ∷ []; type = type }) from.many) (λ rows. on_columns own (λ columns. Meets (AreOf (record { type = type; many = from.many })) (kernel registry frame rows (FunctionOp (FieldByName name) recorded) (StructType fields ∷ []) type columns)) (λ values v. field_fits name fields from.many type values is v));
    })

field_taken_keeps : (registry : Registry) (schema : Columns) (name : Name) (recorded : List Label) (from : Typed) (found : Option Ty) (taken : Taken) → type_alone from.type ≡ found → field_taken name found ≡ Ok taken → KeepsRule registry schema (FunctionOp (FieldByName name) recorded) (from ∷ []) (ruling_of taken from.many)
field_taken_keeps registry schema name recorded from (Some (StructType fields)) taken alone h = field_keeps registry schema name recorded from fields (field_type name fields) taken alone refl h
field_taken_keeps registry schema name recorded from _ taken alone h = cc

-- ---- aliases

alias_keeps : (registry : Registry) (schema : Columns) (name : Name) (input : Typed) → KeepsRule registry schema (AliasOp name) (input ∷ []) (aliased input)
alias_keeps registry schema name input = record {
  becomes = (passes refl refl, tt);
  stays = refl;
  own = of_operand (record { name = name; op_is = refl; over = refl });
  gives = λ frame same of. by_columns registry frame (AliasOp name) (λ registry frame ruling operands rows. refl) (input ∷ []) (aliased input) (λ rows. on_columns (input ∷ []) (λ columns. Meets (AreOf input) (kernel registry frame rows (AliasOp name) (input.type ∷ []) input.type columns)) (λ column fit. fit));
}

-- ---- ops that go by a signature

signed_keeps : (registry : Registry) (schema : Columns) (op : Op) → KernelGives op → GoesByColumns op → ((typed : List Typed) → rule registry schema op typed ≡ signed (signature op (length typed)) typed) → (typed : List Typed) (ruling : Ruling) → rule registry schema op typed ≡ Ok ruling → KeepsRule registry schema op typed ruling
signed_keeps registry schema op gives goes is typed ruling h =
    let s = is_signed (signature op (length typed)) typed ruling (sym (is typed) ∙ h) in
    let own = typed_to typed ruling.operands in
    let same = ap (signature op) s.as_many in
    record {
      becomes = s.becomes;
      stays = is own ∙ ap (λ found. signed found own) same ∙ s.stays;
      own = of_columns s.known;
      gives = λ frame at of. by_columns registry frame op goes own ruling (λ rows.
          let each = subst (λ found. OnSigned found (λ signature. OnAsked s.shared signature 0 own (λ columns. Meets (AreOf (own_over signature own)) (kernel registry frame rows op (types_of own) (own_over signature own).type columns)))) (same ∙ s.found_is) (gives registry frame rows s.shared own) in
          let here = subst (λ (typing : Typed). OnAsked s.shared s.signature 0 own (λ columns. Meets (AreOf typing) (kernel registry frame rows op (types_of own) typing.type columns))) s.own each in
          let there = subst (λ types. OnAsked s.shared s.signature 0 own (λ columns. Meets (AreOf ruling.own) (kernel registry frame rows op types ruling.own.type columns))) s.types here in
          let P : List (List Val) → Type 0 = λ columns. Meets (AreOf ruling.own) (kernel registry frame rows op ruling.operands ruling.own.type columns) in
          on_columns own P (s.on P there));
    }

-- ---- windows

window_keeps : (registry : Registry) (schema : Columns) (order : Option SortOptions) (typed : List Typed) (ruling : Ruling) → rule registry schema (WindowOp order) typed ≡ Ok ruling → KeepsRule registry schema (WindowOp order) typed ruling
window_keeps registry schema order typed ruling h =
    let s = is_signed (signature (WindowOp order) (length typed)) typed ruling h in
    let own = typed_to typed ruling.operands in
    let same = ap (signature (WindowOp order)) s.as_many in
    record {
      becomes = s.becomes;
      stays = ap (λ found. signed found own) same ∙ s.stays;
      own = of_columns s.known;
      gives = λ frame at of operands all.
          let here = applied registry frame (WindowOp order) ruling operands in
          let each = subst (λ found. OnSigned found (λ signature. AllMean own operands → MeansType (own_over signature own) here)) (same ∙ s.found_is) (window_gives order registry frame ruling own operands) in
          subst (λ typing. MeansType typing here) s.own (each all);
    }

-- ---- functions

function_keeps : (registry : Registry) (schema : Columns) (function : FunctionExpr) (recorded : List Label) (typed : List Typed) (ruling : Ruling) → rule registry schema (FunctionOp function recorded) typed ≡ Ok ruling → KeepsRule registry schema (FunctionOp function recorded) typed ruling
function_keeps registry schema IsIn recorded (value ∷ among ∷ []) ruling h =
    ruled_is (KeepsRule registry schema (FunctionOp IsIn recorded) (value ∷ among ∷ [])) (is_in_taken (type_alone value.type) (type_alone among.type)) (value.many || (among.many || false)) ruling h (λ taken found. is_in_keeps registry schema recorded value among (type_alone value.type) (type_alone among.type) taken refl refl found)
function_keeps registry schema (FieldByName name) recorded (from ∷ []) ruling h =
    ruled_is (KeepsRule registry schema (FunctionOp (FieldByName name) recorded) (from ∷ [])) (field_taken name (type_alone from.type)) from.many ruling h (λ taken found. field_taken_keeps registry schema name recorded from (type_alone from.type) taken refl found)
function_keeps registry schema IsIn recorded [] ruling h = cc
function_keeps registry schema IsIn recorded (value ∷ []) ruling h = cc
function_keeps registry schema IsIn recorded (value ∷ among ∷ third ∷ typed) ruling h = cc
function_keeps registry schema (FieldByName name) recorded [] ruling h = cc
function_keeps registry schema (FieldByName name) recorded (from ∷ second ∷ typed) ruling h = cc
function_keeps registry schema (FieldByIndex place) recorded typed ruling h = cc
function_keeps registry schema AllHorizontal recorded typed ruling h = signed_keeps registry schema (FunctionOp AllHorizontal recorded) (function_gives AllHorizontal recorded) (λ registry frame ruling operands rows. refl) (λ typed. refl) typed ruling h
function_keeps registry schema AnyHorizontal recorded typed ruling h = signed_keeps registry schema (FunctionOp AnyHorizontal recorded) (function_gives AnyHorizontal recorded) (λ registry frame ruling operands rows. refl) (λ typed. refl) typed ruling h
function_keeps registry schema IsNull recorded typed ruling h = signed_keeps registry schema (FunctionOp IsNull recorded) (function_gives IsNull recorded) (λ registry frame ruling operands rows. refl) (λ typed. refl) typed ruling h
function_keeps registry schema IsNotNull recorded typed ruling h = signed_keeps registry schema (FunctionOp IsNotNull recorded) (function_gives IsNotNull recorded) (λ registry frame ruling operands rows. refl) (λ typed. refl) typed ruling h
function_keeps registry schema FillNull recorded typed ruling h = signed_keeps registry schema (FunctionOp FillNull recorded) (function_gives FillNull recorded) (λ registry frame ruling operands rows. refl) (λ typed. refl) typed ruling h
function_keeps registry schema ShiftAndFill recorded typed ruling h = signed_keeps registry schema (FunctionOp ShiftAndFill recorded) (function_gives ShiftAndFill recorded) (λ registry frame ruling operands rows. refl) (λ typed. refl) typed ruling h
function_keeps registry schema (ListGet flag) recorded typed ruling h = signed_keeps registry schema (FunctionOp (ListGet flag) recorded) (function_gives (ListGet flag) recorded) (λ registry frame ruling operands rows. refl) (λ typed. refl) typed ruling h

-- ---- by op

pub keeps_rule : (registry : Registry) (schema : Columns) (op : Op) (typed : List Typed) (ruling : Ruling) → rule registry schema op typed ≡ Ok ruling → KeepsRule registry schema op typed ruling
keeps_rule registry schema (ColumnOp name) [] ruling h =
    ruled_is (KeepsRule registry schema (ColumnOp name) []) (column_type (type_at schema name)) true ruling h (λ taken found. column_keeps registry schema name (type_at schema name) taken refl found)
keeps_rule registry schema (LiteralOp type value) [] ruling h =
    ruled_is (KeepsRule registry schema (LiteralOp type value) []) (literal_taken type value) false ruling h (literal_keeps registry schema type value)
keeps_rule registry schema (BinaryOp operator) (left ∷ right ∷ []) ruling h =
    ruled_is (KeepsRule registry schema (BinaryOp operator) (left ∷ right ∷ [])) (operator_types operator (left.type ∷ right.type ∷ [])) (left.many || (right.many || false)) ruling h (λ taken found. binary_keeps registry schema operator left right taken (operands_taken operator left.type right.type taken found))
keeps_rule registry schema (CastOp target options) (from ∷ []) ruling h =
    ruled_is (KeepsRule registry schema (CastOp target options) (from ∷ [])) (cast_taken target (type_alone from.type)) from.many ruling h (λ taken found. cast_keeps registry schema target options from (type_alone from.type) taken refl found)
keeps_rule registry schema (AliasOp name) (input ∷ []) ruling h =
    subst (KeepsRule registry schema (AliasOp name) (input ∷ [])) (ok_same (rule registry schema (AliasOp name) (input ∷ [])) (aliased input) ruling refl h) (alias_keeps registry schema name input)
keeps_rule registry schema (AggOp method) typed ruling h = signed_keeps registry schema (AggOp method) (aggregate_gives method) (λ registry frame ruling operands rows. refl) (λ typed. refl) typed ruling h
keeps_rule registry schema (WindowOp order) typed ruling h = window_keeps registry schema order typed ruling h
keeps_rule registry schema LenOp typed ruling h = signed_keeps registry schema LenOp len_gives (λ registry frame ruling operands rows. refl) (λ typed. refl) typed ruling h
keeps_rule registry schema SliceOp typed ruling h = signed_keeps registry schema SliceOp slice_gives (λ registry frame ruling operands rows. refl) (λ typed. refl) typed ruling h
keeps_rule registry schema ExplodeOp typed ruling h = signed_keeps registry schema ExplodeOp explode_gives (λ registry frame ruling operands rows. refl) (λ typed. refl) typed ruling h
keeps_rule registry schema (GatherOp returns_scalar) typed ruling h = signed_keeps registry schema (GatherOp returns_scalar) (gather_gives returns_scalar) (λ registry frame ruling operands rows. refl) (λ typed. refl) typed ruling h
keeps_rule registry schema FilterOp typed ruling h = signed_keeps registry schema FilterOp filter_gives (λ registry frame ruling operands rows. refl) (λ typed. refl) typed ruling h
keeps_rule registry schema (SortOp options) typed ruling h = signed_keeps registry schema (SortOp options) (sort_gives options) (λ registry frame ruling operands rows. refl) (λ typed. refl) typed ruling h
keeps_rule registry schema (SortByOp descending nulls_last) typed ruling h = signed_keeps registry schema (SortByOp descending nulls_last) (sort_by_gives descending nulls_last) (λ registry frame ruling operands rows. refl) (λ typed. refl) typed ruling h
keeps_rule registry schema TernaryOp typed ruling h = signed_keeps registry schema TernaryOp ternary_gives (λ registry frame ruling operands rows. refl) (λ typed. refl) typed ruling h
keeps_rule registry schema (FunctionOp function recorded) typed ruling h = function_keeps registry schema function recorded typed ruling h
keeps_rule _ _ _ _ _ h = cc
