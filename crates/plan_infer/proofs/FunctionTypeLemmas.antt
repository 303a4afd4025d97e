-- What the rules of functions say, and why their operands are refused.
use Rattle.std.proofs.Common.{◌≡◌, ℕ, Bool, true, false, cond, ◌&&◌, List, [], ◌∷◌, length, Option, Some, None, Result, Ok, Err, refl, sym, ap, ◌∙◌, subst, ⊎_elim}
use Rattle.std.specs.Prelude.{ℤ}
use Rattle.plan_types.specs.Types.{Ty, NullType, Integer, ListType, StructType, Fields, is_integer, is_known, is_null, ty, untyped_number}
use Rattle.plan_types.specs.Values.{in_range}
use Rattle.plan_types.specs.Schemas.{Name}
use Rattle.plan_types.specs.Supertypes.{supertype}
use Rattle.plan_types.specs.CommonTypes.{found_common, literal_type, type_alone}
use Rattle.plan_types.specs.Errors.{IsMemoryOr, IsRefusal, no_room, broken}
use Rattle.plan_types.specs.declared.dtype.DataType.{DataType}
use Rattle.plan_types.specs.declared.dtype.DataType.TheVariants.{Null, List', List as ListOf, Struct, Unknown}
use Rattle.plan_types.specs.declared.error.ErrorKind.{ErrorKind}
use Rattle.plan_types.specs.declared.error.ErrorKind.TheVariants.{ComputeError, InvalidOperation, SchemaMismatch}
use Rattle.plan_types.specs.declared.error.PlanError.{PlanError}
use Rattle.plan_dsl.specs.declared.function_expr.FunctionExpr.{FunctionExpr}
use Rattle.plan_dsl.specs.declared.function_expr.FunctionExpr.TheVariants.{AllHorizontal, AnyHorizontal, IsNull, IsNotNull, FillNull, IsIn, ShiftAndFill, ListGet, FieldByName, FieldByIndex}
use Rattle.plan_dsl.specs.FunctionTypes.{apart_type, field_found, field_taken, field_type, in_column, in_lists, is_in_taken, is_in_types, member_type}
use Rattle.plan_dsl.specs.OperatorTypes.{Taken}
use Rattle.plan_dsl.specs.Signatures.{function_signature}
use Rattle.plan_dsl.specs.Typing.{Typed, function_rule, ruled_as, signed, some_many}
use Rattle.plan_dsl.specs.Names.{Label, op_label}
use Rattle.plan_dsl.specs.Ops.{FunctionOp, Op}
use Rattle.plan_arena.specs.declared.aexpr.AExpr.TheVariants.{Function}
use Rattle.plan_arena.specs.declared.expr_ir.ExprIR.{ExprIR}
use Rattle.plan_arena.specs.declared.expr_ir.ExprIRs.{ExprIRs}
use Rattle.plan_arena.specs.Layers.{Layer, op_of, inputs_of}
use Rattle.plan_arena.specs.Items.{AreNamesOver, expression_layer, numbers_named, recorded}
use Rattle.plan_infer.specs.declared.type_table.Inferred.{Inferred}
use Rattle.plan_infer.specs.declared.type_table.TypeTable.{TypeTable}
use Rattle.plan_infer.specs.KeptTypes.{IsNamedBy, Says, by_itself, typings_at}
use Rattle.plan_infer.specs.Operands.{is_finer}
use Rattle.plan_infer.proofs.TypingLemmas.{refused_so}

-- ---- a value among others

pub no_value : (value among : Option Ty) (error : PlanError) → IsMemoryOr InvalidOperation (value ≡ None) error → IsRefusal (is_in_taken value among) error
no_value value among error h = ⊎_elim (λ e. no_room e) (λ p. broken InvalidOperation p.0 (ap (λ v. is_in_taken v among) p.1)) h

pub no_others : (value among : Option Ty) (own : Ty) (error : PlanError) → value ≡ Some own → IsMemoryOr InvalidOperation (among ≡ None) error → IsRefusal (is_in_taken value among) error
no_others value among own error is h =
    ⊎_elim (λ e. no_room e) (λ p. broken InvalidOperation p.0 (ap (λ v. is_in_taken v among) is ∙ ap (is_in_taken (Some own)) p.1)) h

-- what is no list, nor null, is looked in whole
pub looked_in : (value : Ty) (among : DataType) → ((item : _) → among ≡ ListOf item → ⊥) → (among ≡ Null → ⊥) → is_in_types value (ty among) ≡ in_column (member_type value (ty among))
looked_in value (List' p item) no_list no_null = absurd (no_list (record { ptr = p.ptr; alloc = p.alloc; value = item }) refl)
looked_in value Null no_list no_null = absurd (no_null refl)
looked_in value among no_list no_null = refl

pub not_in_lists : (member : Result Ty ErrorKind) (error : PlanError) → IsRefusal member error → IsRefusal (in_lists member) error
not_in_lists member error refused = refused_so _ _ error (λ kind e. ap in_lists e) refused

pub not_in_column : (member : Result Ty ErrorKind) (error : PlanError) → IsRefusal member error → IsRefusal (in_column member) error
not_in_column member error refused = refused_so _ _ error (λ kind e. ap in_column e) refused

-- two types, of which neither is null: integers have a common one
integers_apart : (type item : Ty) → (is_integer type && is_integer item) ≡ true → apart_type type item ≡ found_common (supertype type item)
integers_apart (Integer signed bits) (Integer other width) h = refl
integers_apart (Integer signed bits) _ h = cc
integers_apart _ _ h = cc

pub integers_found : (type item found : Ty) → (is_integer type && is_integer item) ≡ true → supertype type item ≡ Some found → apart_type type item ≡ Ok found
integers_found type item found h is = integers_apart type item h ∙ ap found_common is

pub integers_refused : (type item : Ty) (error : PlanError) → (is_integer type && is_integer item) ≡ true → IsMemoryOr SchemaMismatch (supertype type item ≡ None) error → IsRefusal (apart_type type item) error
integers_refused type item error h b =
    ⊎_elim (λ e. no_room e) (λ p. broken SchemaMismatch p.0 (integers_apart type item h ∙ ap found_common p.1)) b

-- and of any others the first is looked for where it is finer
pub times_apart : (type item : Ty) (finer : Bool) → is_null type ≡ false → is_null item ≡ false → (is_integer type && is_integer item) ≡ false → is_finer type item ≡ finer → apart_type type item ≡ cond finer (Ok type) (Err InvalidOperation)
times_apart type item finer n m both is = by_unit type item n m both ∙ ap (λ b. cond b (Ok type) (Err InvalidOperation)) is where
  by_unit : (type item : Ty) → is_null type ≡ false → is_null item ≡ false → (is_integer type && is_integer item) ≡ false → apart_type type item ≡ cond (is_finer type item) (Ok type) (Err InvalidOperation)
  by_unit NullType item n m both = cc
  by_unit (Integer signed bits) (Integer other width) n m both = cc
  by_unit type NullType n m both = cc
  by_unit type item n m both = refl

-- ---- a field of a struct

abbrev is_no_struct : Ty → Bool
is_no_struct (StructType fields) = false
is_no_struct type = true

either_type : (name : Name) (b : Bool) (type : Ty) (rest : Option Ty) → is_no_struct type ≡ true → field_taken name rest ≡ Err InvalidOperation → field_taken name (cond b (Some type) rest) ≡ Err InvalidOperation
either_type name false type rest h r = r
either_type name true (StructType fields) rest h r = cc
either_type name true type rest h r = refl

number_field : (name : Name) (number : ℤ) → field_taken name (literal_type number) ≡ Err InvalidOperation
number_field name number =
    either_type name (in_range (Integer true 32) number) (Integer true 32) _ refl
    (either_type name (in_range (Integer true 64) number) (Integer true 64) _ refl
    (either_type name (in_range (Integer false 64) number) (Integer false 64) None refl refl))

-- what is no struct has none
pub no_struct : (name : Name) (from : DataType) → ((fields : _) → from ≡ Struct fields → ⊥) → field_taken name (type_alone (ty from)) ≡ Err InvalidOperation
no_struct name (Struct fields) none = absurd (none fields refl)
no_struct name (List' p item) none = either_type name (is_known (ty item)) (ListType (ty item)) None refl refl
no_struct name (Unknown kind) none = number_field name (untyped_number kind)
no_struct name from none = refl

-- nor has one that isn't of a type of columns
pub unknown_struct : (name : Name) (from : DataType) (others : _) → from ≡ Struct others → is_known (ty from) ≡ false → field_taken name (type_alone (ty from)) ≡ Err InvalidOperation
unknown_struct name (Struct fields) others is unknown = ap (λ b. field_taken name (cond b (Some (ty (Struct fields))) None)) unknown
unknown_struct name from others is unknown = cc

-- any other has the field, where it has one of the name
pub in_struct : (name : Name) (from : Ty) (fields : Fields) (found : Option Ty) → from ≡ StructType fields → is_known from ≡ true → field_type name fields ≡ found → field_taken name (type_alone from) ≡ field_found from found
in_struct name from fields found is known has =
    subst (λ t. is_known t ≡ true → field_taken name (type_alone t) ≡ field_found t found) (sym is)
    (λ known. ap (λ b. field_taken name (cond b (Some (StructType fields)) None)) known ∙ ap (field_found (StructType fields)) has) known

pub no_such_field : (name : Name) (from : Ty) (fields : Fields) (error : PlanError) → from ≡ StructType fields → is_known from ≡ true → IsMemoryOr InvalidOperation (field_type name fields ≡ None) error → IsRefusal (field_taken name (type_alone from)) error
no_such_field name from fields error is known b =
    ⊎_elim (λ e. no_room e) (λ p. broken InvalidOperation p.0 (in_struct name from fields None is known p.1)) b

-- ---- nodes

-- of another number of operands
pub not_two : (typed : List Typed) → (length typed ≡ 2 → ⊥) → function_rule IsIn typed ≡ Err ComputeError
not_two [] h = refl
not_two (x ∷ []) h = refl
not_two (x ∷ y ∷ []) h = absurd (h refl)
not_two (x ∷ y ∷ z ∷ rest) h = refl

pub in_two : (typed : List Typed) (value among : Typed) (taken : Taken) → typed ≡ value ∷ among ∷ [] → is_in_taken (type_alone value.type) (type_alone among.type) ≡ Ok taken → function_rule IsIn typed ≡ ruled_as (Ok taken) (some_many typed)
in_two typed value among taken two is =
    subst (λ ts. function_rule IsIn ts ≡ ruled_as (Ok taken) (some_many ts)) (sym two) (ap (λ f. ruled_as f (some_many (value ∷ among ∷ []))) is)

pub not_one : (name : Name) (typed : List Typed) → (length typed ≡ 1 → ⊥) → function_rule (FieldByName name) typed ≡ Err ComputeError
not_one name [] h = refl
not_one name (x ∷ []) h = absurd (h refl)
not_one name (x ∷ y ∷ rest) h = refl

-- any other function goes by its signature
pub by_signature : (function : FunctionExpr) (typed : List Typed) → (function ≡ IsIn → ⊥) → ((name : Name) → function ≡ FieldByName name → ⊥) → function_rule function typed ≡ signed (function_signature function (length typed)) typed
by_signature IsIn typed member field = absurd (member refl)
by_signature (FieldByName name) typed member field = absurd (field name refl)
by_signature _ typed member field = refl

-- a function over some operand keeps its name itself, and so does one over none
label_kept : (function : FunctionExpr) (input : List ExprIR) (names : List Label) → AreNamesOver (numbers_named input) names → op_label (FunctionOp function (recorded input)) names ≡ op_label (FunctionOp function (recorded input)) []
label_kept function [] names over = ap (op_label (FunctionOp function [])) over
label_kept function (first ∷ rest) names over = refl

-- so a node of one is named by itself
pub function_named : (table : TypeTable) (function : FunctionExpr) (input : ExprIRs) (n : ℕ) (l : Layer Op) (ns : List ℕ) (own : Inferred) → l ≡ expression_layer (Function input function) → ns ≡ inputs_of (expression_layer (Function input function)) → own.name.0 ≡ n → IsNamedBy table (op_of l) n ns own.name.0
function_named table function input n l ns own is inputs named =
    by_itself named (λ names over.
    ap (λ k. op_label (op_of k) names) is ∙ label_kept function input.items.items names (subst (λ ms. AreNamesOver ms names) inputs over) ∙ sym (ap (λ k. op_label (op_of k) []) is))
