-- The type of a node, from those of its inputs.
use Rattle.std.proofs.Common.{◌≡◌, ℕ, Bool, true, false, ◌||◌, cond, List, [], ◌∷◌, map, Some, None, Result, Ok, Err, IfOk, IfErr, refl, sym, ap, ◌∙◌, inl, ⊎_elim}
use Rattle.plan_types.specs.Types.{Ty, ty, is_known}
use Rattle.plan_types.specs.Values.{Val}
use Rattle.plan_types.specs.Schemas.{Columns, Name, type_at}
use Rattle.plan_types.specs.CommonTypes.{type_alone}
use Rattle.plan_types.specs.Casts.{can_cast}
use Rattle.plan_types.specs.Errors.{at_top, IsMemoryOr, IsRefusal, no_room, broken}
use Rattle.plan_types.specs.declared.error.ErrorKind.{ErrorKind}
use Rattle.plan_types.specs.declared.error.ErrorKind.TheVariants.{InvalidOperation}
use Rattle.plan_types.specs.declared.error.PlanError.{PlanError}
use Rattle.plan_types.specs.declared.dtype.CastOptions.{CastOptions}
use Rattle.plan_dsl.specs.declared.operator.Operator.{Operator}
use Rattle.plan_dsl.specs.Registry.{Registry}
use Rattle.plan_dsl.specs.Ops.{Op, ColumnOp, LiteralOp, BinaryOp, CastOp, Expression}
use Rattle.plan_dsl.specs.Literals.{is_literal}
use Rattle.plan_dsl.specs.Typing.{Typed, column_type, literal_taken, cast_taken, own_typed, ruled_as, some_many, typing_rule, types_of, typing, rule}
use Rattle.plan_dsl.specs.OperatorTypes.{Taken, operator_types, pair_to}
use Rattle.plan_dsl.proofs.TypingLemmas.{ruling_of}
use Rattle.plan_arena.specs.declared.aexpr.AExpr.{AExpr}
use Rattle.plan_arena.specs.Denotation.{Denotes}
use Rattle.plan_arena.specs.Items.{HoldsExpression}
use Rattle.plan_infer.specs.declared.type_table.Inferred.{Inferred}
use Rattle.plan_infer.specs.KeptTypes.{AreOperands, IsRuled, Says}
use Rattle.plan_infer.specs.Typed.{HasType}

-- a refusal below is one here, where the kinds are the same
pub refused_so : {A B : Type 0} (from : Result A ErrorKind) (to : Result B ErrorKind) (error : PlanError) → ((kind : ErrorKind) → from ≡ Err kind → to ≡ Err kind) → IsRefusal from error → IsRefusal to error
refused_so from to error same (no_room e) = no_room e
refused_so from to error same (broken kind e b) = broken kind e (same kind b)

-- what an answer says, where it says more
pub if_ok : {T E : Type 0} (r : Result T E) (P Q : T → Type 0) → ((x : T) → P x → Q x) → IfOk r P → IfOk r Q
if_ok (Ok x) P Q so h = so x h
if_ok (Err e) P Q so h = tt

pub if_ok_both : {T E : Type 0} (r : Result T E) (P R Q : T → Type 0) → ((x : T) → P x → R x → Q x) → IfOk r P → IfOk r R → IfOk r Q
if_ok_both (Ok x) P R Q so h k = so x h k
if_ok_both (Err e) P R Q so h k = tt

pub if_err : {T E : Type 0} (r : Result T E) (P Q : E → Type 0) → ((e : E) → P e → Q e) → IfErr r P → IfErr r Q
if_err (Ok x) P Q so h = tt
if_err (Err e) P Q so h = so e h

-- a literal whose type doesn't have its value
pub no_literal : (type : Ty) (value : Val) (error : PlanError) → error ≡ at_top InvalidOperation → is_literal type value ≡ false → IsRefusal (literal_taken type value) error
no_literal type value error e h = broken InvalidOperation e (ap (λ b. cond b (Ok (record { operands = []; type = type })) (Err InvalidOperation)) h)

module _ (items : List AExpr) (registry : Registry) (schema : Columns) where
  -- the expressions at a node have this typing
  abbrev pub AllTyped : ℕ → Typed → Type 0
  AllTyped n typed = (t : Expression) → Denotes (HoldsExpression items) n t → typing registry schema t ≡ Ok typed

  -- and this type
  abbrev pub AllHaveType : ℕ → Ty → Type 0
  AllHaveType n type = (t : Expression) → Denotes (HoldsExpression items) n t → HasType (typing registry schema t) type

  -- the expressions at a node are refused so, or memory ran out
  abbrev pub AllRefused : ℕ → PlanError → Type 0
  AllRefused n error = (t : Expression) → Denotes (HoldsExpression items) n t → IsRefusal (typing registry schema t) error

-- what a table of types says of a node is what its rule says
module _ (registry : Registry) (schema : Columns) (op : Op) (typed : List Typed) (found : Result Taken ErrorKind) (many : Bool) (is : rule registry schema op typed ≡ ruled_as found many) where
  pub ruled_taken : (taken : Taken) (own : Inferred) → found ≡ Ok taken → taken.type ≡ ty own.dtype → many ≡ own.many → AreOperands (map ty own.operands) (types_of typed) taken.operands → IsRuled registry schema op typed own
  ruled_taken taken own e type same operands = record {
    ruling = ruling_of taken many;
    rules = is ∙ ap (λ f. ruled_as f many) e;
    is = λ i. record { type = type i; many = same i };
    operands = operands;
  }

  pub rule_refused : (error : PlanError) → IsRefusal found error → IsRefusal (typing_rule registry schema op typed) error
  rule_refused error refused = refused_so _ _ error (λ kind e. ap own_typed (is ∙ ap (λ f. ruled_as f many) e)) refused

-- and of a node that takes two inputs to these types
pub pair_says : (left right : Typed) (own : Inferred) (first second : Ty) → own.many ≡ some_many (left ∷ right ∷ []) → AreOperands (map ty own.operands) (left.type ∷ right.type ∷ []) (first ∷ second ∷ []) → Says (ruled_as (Ok (pair_to first second (ty own.dtype))) (some_many (left ∷ right ∷ []))) (left ∷ right ∷ []) own
pair_says left right own first second many operands = record {
  ruling = ruling_of (pair_to first second (ty own.dtype)) (some_many (left ∷ right ∷ []));
  rules = refl;
  is = λ i. record { type = ty own.dtype; many = sym many i };
  operands = operands;
}

-- a column has the type that the schema gives it
pub column_ruled : (registry : Registry) (schema : Columns) (name : Name) (type : Ty) (own : Inferred) → type_at schema name ≡ Some type → is_known type ≡ true → ty own.dtype ≡ type → own.many ≡ true → own.operands ≡ [] → IsRuled registry schema (ColumnOp name) [] own
column_ruled registry schema name type own at known same many none =
    let found = ap column_type at ∙ ap (λ b. cond b (Ok (record { operands = []; type = type })) (Err InvalidOperation)) known in
    ruled_taken registry schema (ColumnOp name) [] (column_type (type_at schema name)) true refl (record { operands = []; type = type }) own found (sym same) (sym many) (inl (ap (map ty) none))

pub column_unknown : (schema : Columns) (name : Name) (type : Ty) → type_at schema name ≡ Some type → is_known type ≡ false → column_type (type_at schema name) ≡ Err InvalidOperation
column_unknown schema name type at unknown =
    ap column_type at ∙ ap (λ b. cond b (Ok (record { operands = []; type = type })) (Err InvalidOperation)) unknown

pub column_refused : (registry : Registry) (schema : Columns) (name : Name) (kind : ErrorKind) (error : PlanError) → error ≡ at_top kind → column_type (type_at schema name) ≡ Err kind → IsRefusal (typing_rule registry schema (ColumnOp name) []) error
column_refused registry schema name kind error e found =
    rule_refused registry schema (ColumnOp name) [] (column_type (type_at schema name)) true refl error (broken kind e found)

-- a literal has its own type
pub literal_ruled : (registry : Registry) (schema : Columns) (type : Ty) (value : Val) (own : Inferred) → literal_taken type value ≡ Ok (record { operands = []; type = ty own.dtype }) → own.many ≡ false → own.operands ≡ [] → IsRuled registry schema (LiteralOp type value) [] own
literal_ruled registry schema type value own found many none =
    ruled_taken registry schema (LiteralOp type value) [] (literal_taken type value) false refl (record { operands = []; type = ty own.dtype }) own found refl (sym many) (inl (ap (map ty) none))

pub literal_refused : (registry : Registry) (schema : Columns) (type : Ty) (value : Val) (error : PlanError) → IsRefusal (literal_taken type value) error → IsRefusal (typing_rule registry schema (LiteralOp type value) []) error
literal_refused registry schema type value error refused =
    rule_refused registry schema (LiteralOp type value) [] (literal_taken type value) false refl error refused

-- an operator over two operands
pub binary_refused : (registry : Registry) (schema : Columns) (operator : Operator) (left right : Typed) (error : PlanError) → IsRefusal (operator_types operator (left.type ∷ right.type ∷ [])) error → IsRefusal (typing_rule registry schema (BinaryOp operator) (left ∷ right ∷ [])) error
binary_refused registry schema operator left right error refused =
    rule_refused registry schema (BinaryOp operator) (left ∷ right ∷ []) (operator_types operator (left.type ∷ right.type ∷ [])) (left.many || (right.many || false)) refl error refused

-- a cast of an operand
pub cast_ruled : (registry : Registry) (schema : Columns) (target : Ty) (options : CastOptions) (from : Typed) (alone : Ty) (own : Inferred) → type_alone from.type ≡ Some alone → can_cast alone target ≡ true → ty own.dtype ≡ target → own.many ≡ from.many → AreOperands (map ty own.operands) (from.type ∷ []) (alone ∷ []) → IsRuled registry schema (CastOp target options) (from ∷ []) own
cast_ruled registry schema target options from alone own is casts type many operands =
    let found = ap (cast_taken target) is ∙ ap (λ b. cond b (Ok (record { operands = alone ∷ []; type = target })) (Err InvalidOperation)) casts in
    ruled_taken registry schema (CastOp target options) (from ∷ []) (cast_taken target (type_alone from.type)) from.many refl (record { operands = alone ∷ []; type = target }) own found (sym type) (sym many) operands

cast_refused : (registry : Registry) (schema : Columns) (target : Ty) (options : CastOptions) (from : Typed) (error : PlanError) → IsRefusal (cast_taken target (type_alone from.type)) error → IsRefusal (typing_rule registry schema (CastOp target options) (from ∷ [])) error
cast_refused registry schema target options from error refused =
    rule_refused registry schema (CastOp target options) (from ∷ []) (cast_taken target (type_alone from.type)) from.many refl error refused

pub cast_alone : (registry : Registry) (schema : Columns) (target : Ty) (options : CastOptions) (from : Typed) (error : PlanError) → IsMemoryOr InvalidOperation (type_alone from.type ≡ None) error → IsRefusal (typing_rule registry schema (CastOp target options) (from ∷ [])) error
cast_alone registry schema target options from error b =
    cast_refused registry schema target options from error (⊎_elim (λ e. no_room e) (λ p. broken InvalidOperation p.0 (ap (cast_taken target) p.1)) b)

pub no_cast : (registry : Registry) (schema : Columns) (target : Ty) (options : CastOptions) (from : Typed) (alone : Ty) (error : PlanError) → type_alone from.type ≡ Some alone → can_cast alone target ≡ false → error ≡ at_top InvalidOperation → IsRefusal (typing_rule registry schema (CastOp target options) (from ∷ [])) error
no_cast registry schema target options from alone error is casts e =
    cast_refused registry schema target options from error (broken InvalidOperation e (ap (cast_taken target) is ∙ ap (λ b. cond b (Ok (record { operands = alone ∷ []; type = target })) (Err InvalidOperation)) casts))
