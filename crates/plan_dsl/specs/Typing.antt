-- Types of expressions.
-- Typing goes from the leaves up by one rule for a node. The first child that is refused is the answer.
use Rattle.std.specs.Prelude.{ℕ, zero, suc, Bool, true, false, ◌&&◌, ◌||◌, List, [], ◌∷◌, ◌++◌, map, length, Option, Some, None, Result, Ok, Err, if◌then◌else◌}
use Rattle.plan_types.specs.Types.{Ty, NullType, is_known}
use Rattle.plan_types.specs.Values.{Val}
use Rattle.plan_types.specs.Schemas.{Columns, type_at}
use Rattle.plan_types.specs.Casts.{can_cast}
use Rattle.plan_types.specs.CommonTypes.{common_type, type_alone}
use Rattle.plan_types.specs.declared.error.ErrorKind.{ErrorKind}
use Rattle.plan_types.specs.declared.error.ErrorKind.TheVariants.{ColumnNotFound, SchemaMismatch, InvalidOperation}
use Rattle.plan_dsl.specs.declared.function_expr.FunctionExpr.{FunctionExpr}
use Rattle.plan_dsl.specs.declared.function_expr.FunctionExpr.TheVariants.{IsIn, FieldByName}
use Rattle.plan_dsl.specs.FunctionTypes.{field_taken, is_in_taken}
use Rattle.plan_dsl.specs.OperatorTypes.{Taken, operator_types}
use Rattle.plan_dsl.specs.Literals.{is_literal}
use Rattle.plan_dsl.specs.Registry.{Registry}
use Rattle.plan_dsl.specs.Trees.{Trees, node, no_more, more, tree_count}
use Rattle.plan_dsl.specs.Ops.{Op, ColumnOp, LiteralOp, BinaryOp, CastOp, AliasOp, FunctionOp, Expression}
use Rattle.plan_dsl.specs.declared.signature.Ask.{Ask}
use Rattle.plan_dsl.specs.declared.signature.Asked.{Asked}
use Rattle.plan_dsl.specs.declared.signature.Many.{Many}
use Rattle.plan_dsl.specs.declared.signature.Many.TheVariants.{Never, Always, AsFirst, WhereAny}
use Rattle.plan_dsl.specs.declared.signature.Sharing.{Sharing}
use Rattle.plan_dsl.specs.declared.signature.Sharing.TheVariants.{Alone, WithSecond, WithThird}
use Rattle.plan_dsl.specs.declared.signature.Signature.{Signature}
use Rattle.plan_dsl.specs.Signatures.{asked_at, asked_target, bare_kinds, function_signature, is_asked, own_type, signature}

-- an expression's type, and whether its column may have another length than one
pub record Typed : Type 0 where
  pub type : Ty
  pub many : Bool

-- what a node makes of typed operands: the types to which it takes them, and its own typing
pub record Ruling : Type 0 where
  pub operands : List Ty
  pub own : Typed

-- a column has no operand, and the type that the schema gives it, which is one of columns
abbrev pub column_type : Option Ty → Result Taken ErrorKind
column_type None = Err ColumnNotFound
column_type (Some type) = if is_known type then Ok (record { operands = []; type = type }) else Err InvalidOperation

-- a literal has its own type
abbrev pub literal_taken : Ty → Val → Result Taken ErrorKind
literal_taken type value = if is_literal type value then Ok (record { operands = []; type = type }) else Err InvalidOperation

-- a cast takes its operand as it is, where there is such a cast. A number without a type gets the one that it has alone
abbrev pub cast_taken : Ty → Option Ty → Result Taken ErrorKind
cast_taken target None = Err InvalidOperation
cast_taken target (Some from) =
    if can_cast from target then Ok (record { operands = from ∷ []; type = target }) else Err InvalidOperation

abbrev pub types_of : List Typed → List Ty
types_of typed = map (λ t. t.type) typed

-- whether some input may have another length than one
abbrev pub some_many : List Typed → Bool
some_many [] = false
some_many (t ∷ ts) = t.many || some_many ts

-- what a table of types says, of a column that may have another length than one or not
abbrev pub ruled_as : Result Taken ErrorKind → Bool → Result Ruling ErrorKind
ruled_as (Err kind) many = Err kind
ruled_as (Ok taken) many = Ok (record { operands = taken.operands; own = record { type = taken.type; many = many } })

-- the typings of operands that were made of these types
abbrev pub typed_to : List Typed → List Ty → List Typed
typed_to [] targets = []
typed_to (t ∷ ts) [] = []
typed_to (t ∷ ts) (target ∷ targets) = record { type = target; many = t.many } ∷ typed_to ts targets

-- the type to which an operand is taken, where the type that it has alone is what is asked, and it is one if it must be
abbrev pub taken_alone : Ask → Option Ty → Option Ty
taken_alone ask None = None
taken_alone ask (Some type) = if is_asked ask type then Some (asked_target ask type) else None

-- the type to which two operands are taken that share one; where none do it doesn't matter
abbrev pub shared_type : Sharing → List Typed → Result Ty ErrorKind
shared_type Alone typed = Ok NullType
shared_type WithSecond (first ∷ second ∷ rest) = common_type first.type second.type
shared_type WithThird (first ∷ second ∷ third ∷ rest) = common_type first.type third.type
shared_type sharing typed = Err SchemaMismatch

-- that type, where the operand at the place has it
abbrev pub shared_at : Sharing → Ty → ℕ → Option Ty
shared_at WithSecond shared zero = Some shared
shared_at WithSecond shared (suc zero) = Some shared
shared_at WithThird shared zero = Some shared
shared_at WithThird shared (suc (suc zero)) = Some shared
shared_at sharing shared place = None

-- the type to which an operand is taken: the shared one, or what goes with its own
abbrev pub taken_as : Option Ty → Ask → Ty → Option Ty
taken_as None ask type = taken_alone ask (type_alone type)
taken_as (Some shared) ask type = Some shared

abbrev pub taken_by : Option Ty → Asked → Typed → Option Ty
taken_by shared asked operand = if asked.one && operand.many then None else taken_as shared asked.ask operand.type

-- one more type in front
abbrev pub type_before : Option Ty → Option (List Ty) → Option (List Ty)
type_before None rest = None
type_before (Some type) None = None
type_before (Some type) (Some types) = Some (type ∷ types)

-- the types to which operands are taken, of which the first has that place
abbrev pub taken_from : Ty → Signature → ℕ → List Typed → Option (List Ty)
taken_from shared signature place [] = Some []
taken_from shared signature place (t ∷ ts) =
    type_before (taken_by (shared_at signature.sharing shared place) (asked_at signature place) t) (taken_from shared signature (suc place) ts)

-- the first operand, which matters to no kind without operands
abbrev pub first_of : List Typed → Typed
first_of [] = record { type = NullType; many = false }
first_of (t ∷ ts) = t

abbrev pub many_of : Many → List Typed → Bool
many_of Never typed = false
many_of Always typed = true
many_of AsFirst typed = (first_of typed).many
many_of WhereAny typed = some_many typed

-- the own typing over operands that were taken
abbrev pub own_over : Signature → List Typed → Typed
own_over signature typed = record { type = own_type signature.own (first_of typed).type; many = many_of signature.many typed }

-- what a signature says of typed operands
abbrev pub signed_to : Signature → List Typed → Option (List Ty) → Result Ruling ErrorKind
signed_to signature typed None = Err InvalidOperation
signed_to signature typed (Some targets) = Ok (record { operands = targets; own = own_over signature (typed_to typed targets) })

abbrev pub signed_sharing : Signature → List Typed → Result Ty ErrorKind → Result Ruling ErrorKind
signed_sharing signature typed (Err kind) = Err kind
signed_sharing signature typed (Ok shared) = signed_to signature typed (taken_from shared signature 0 typed)

abbrev pub signed : Result Signature ErrorKind → List Typed → Result Ruling ErrorKind
signed (Err kind) typed = Err kind
signed (Ok signature) typed = signed_sharing signature typed (shared_type signature.sharing typed)

-- an alias passes its operand on, a number without a type too
abbrev pub aliased : Typed → Ruling
aliased input = record { operands = input.type ∷ []; own = input }

-- a function has a signature, but the one that tells whether a value is in another operand, and the one that takes a field
abbrev pub function_rule : FunctionExpr → List Typed → Result Ruling ErrorKind
function_rule IsIn (value ∷ among ∷ []) = ruled_as (is_in_taken (type_alone value.type) (type_alone among.type)) (some_many (value ∷ among ∷ []))
function_rule (FieldByName name) (from ∷ []) = ruled_as (field_taken name (type_alone from.type)) from.many
function_rule function typed = signed (function_signature function (length typed)) typed

-- The types to which a node takes operands that are typed so, and its own typing: of a kind without a clause here, by its
-- signature.
abbrev pub rule : Registry → Columns → Op → List Typed → Result Ruling ErrorKind
rule registry schema (ColumnOp name) [] = ruled_as (column_type (type_at schema name)) true
rule registry schema (LiteralOp type value) [] = ruled_as (literal_taken type value) false
rule registry schema (BinaryOp operator) typed = ruled_as (operator_types operator (types_of typed)) (some_many typed)
rule registry schema (CastOp target options) (from ∷ []) = ruled_as (cast_taken target (type_alone from.type)) from.many
rule registry schema (AliasOp name) (input ∷ []) = Ok (aliased input)
rule registry schema (FunctionOp function recorded) typed = function_rule function typed
rule registry schema op typed = signed (signature op (length typed)) typed

abbrev pub own_typed : Result Ruling ErrorKind → Result Typed ErrorKind
own_typed (Err kind) = Err kind
own_typed (Ok ruling) = Ok ruling.own

-- a node's typing, from its children's
abbrev pub typing_rule : Registry → Columns → Op → List Typed → Result Typed ErrorKind
typing_rule registry schema op children = own_typed (rule registry schema op children)

-- goes on where a child is typed
abbrev pub then_typed : {A : Type 0} → Result A ErrorKind → (A → Result Typed ErrorKind) → Result Typed ErrorKind
then_typed (Err kind) rule = Err kind
then_typed (Ok typed) rule = rule typed

-- one more typing in front
abbrev pub typed_before : Result Typed ErrorKind → Result (List Typed) ErrorKind → Result (List Typed) ErrorKind
typed_before (Err kind) rest = Err kind
typed_before (Ok typed) (Err kind) = Err kind
typed_before (Ok typed) (Ok rest) = Ok (typed ∷ rest)

abbrev mutual
  pub typing : Registry → Columns → Expression → Result Typed ErrorKind
  typing registry schema (node op children) = then_typed (typing_all registry schema children) (typing_rule registry schema op)

  pub typing_all : Registry → Columns → Trees Op → Result (List Typed) ErrorKind
  typing_all registry schema no_more = Ok []
  typing_all registry schema (more child rest) = typed_before (typing registry schema child) (typing_all registry schema rest)

-- the kind of a refusal, where it is one
abbrev pub kind_of : Result Typed ErrorKind → List ErrorKind
kind_of (Err kind) = kind ∷ []
kind_of (Ok typed) = []

-- the kinds that a node breaks itself: by its rule where its children are typed, and else what it breaks whatever they are
abbrev pub own_kind : List ErrorKind → Result (List Typed) ErrorKind → (List Typed → Result Typed ErrorKind) → List ErrorKind
own_kind bare (Err kind) rule = bare
own_kind bare (Ok typed) rule = kind_of (rule typed)

-- the kinds that an expression breaks: those of each node
abbrev mutual
  pub kinds_in : Registry → Columns → Expression → List ErrorKind
  kinds_in registry schema (node op children) =
      kinds_in_all registry schema children ++ own_kind (bare_kinds op (tree_count children)) (typing_all registry schema children) (typing_rule registry schema op)

  pub kinds_in_all : Registry → Columns → Trees Op → List ErrorKind
  kinds_in_all registry schema no_more = []
  kinds_in_all registry schema (more child rest) = kinds_in registry schema child ++ kinds_in_all registry schema rest
