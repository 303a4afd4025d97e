-- Rules that put nodes in place of others.
-- What a rule says of a node goes by the expression that it denotes. Where it goes by what the node does and by what is
-- seen of its inputs alone, their names and typings, it stays so where inputs are put in place by others that are like them.
-- What is said of a plan's node goes by the node's kind, and by the schema that goes into it.
use Rattle.std.specs.Prelude.{◌≡◌, ◌⊎◌, ◌<◌, ◌≤◌, ◌+◌, ◌&&◌, ℕ, ℤ, Bool, true, false, List, [], ◌∷◌, length, Result, Ok, Err, if◌then◌else◌}
use Rattle.std.specs.List.{AllByRecursion}
use Rattle.plan_types.specs.Frames.{IsFrame, Row}
use Rattle.plan_types.specs.Types.{Untyped, is_known, is_truth}
use Rattle.plan_types.specs.Schemas.{Columns}
use Rattle.plan_types.specs.Values.{Val}
use Rattle.plan_types.specs.declared.error.ErrorKind.{ErrorKind}
use Rattle.plan_types.specs.declared.error.ErrorKind.TheVariants.{InvalidOperation}
use Rattle.plan_dsl.specs.Coercion.{coerced}
use Rattle.plan_dsl.specs.InlinedCasts.{stays, until_gone, written_out}
use Rattle.plan_dsl.specs.Registry.{Registry}
use Rattle.plan_dsl.specs.Literals.{settled}
use Rattle.plan_dsl.specs.Meaning.{meaning}
use Rattle.plan_dsl.specs.Names.{Label, label_of, op_label}
use Rattle.plan_dsl.specs.Ops.{Op, LiteralOp, Expression}
use Rattle.plan_dsl.specs.Plans.{Named, FilterWork, PlanKind, OverKind, FilterKind, PlanOp}
use Rattle.plan_dsl.specs.Strictness.{is_strict_over}
use Rattle.plan_dsl.specs.Trees.{Trees, node, no_more, more, fold_all, AllRelated}
use Rattle.plan_dsl.specs.Typing.{Typed, typing, typing_all}
use Rattle.plan_arena.specs.declared.aexpr.AExpr.{AExpr}
use Rattle.plan_arena.specs.declared.ir.IR.{IR}
use Rattle.plan_arena.specs.Denotation.{Denotes}
use Rattle.plan_arena.specs.Items.{HoldsExpression, HoldsPlan}
use Rattle.plan_arena.specs.Runs.{AllAccepted}
use Rattle.plan_infer.specs.declared.type_table.Inferred.{Inferred}
use Rattle.plan_infer.specs.declared.type_table.TypeTable.{TypeTable}
use Rattle.plan_infer.specs.KeptTypes.{Extends, IsKept, KeepsEntry, typed_of}
use Rattle.plan_coerce.specs.Reaching.{IsReached}
use Rattle.plan_arena.specs.Unchecked.{GoesInto, HasUncheckedSchema}

-- ---- nodes of expressions

-- what is seen of a node's inputs: their names, with what these come from, and their typings, or why one has none
pub record Inputs : Type 0 where
  pub labels : List Label
  pub typings : Result (List Typed) ErrorKind

abbrev pub seen : Registry → Columns → Trees Op → Inputs
seen registry schema children = record { labels = fold_all op_label children; typings = typing_all registry schema children }

-- what is said of a node, by its op and its inputs
abbrev pub said : {A : Type 0} → (Op → Inputs → A) → Registry → Columns → Expression → A
said says registry schema (node op children) = says op (seen registry schema children)

-- the one expression has the type and name of the other, and on each frame of the schema gives the same of any list of its
-- rows
pub record IsSameOnFrames (registry : Registry) (schema : Columns) (before after : Expression) : Type 0 where
  pub typing : typing registry schema after ≡ typing registry schema before
  pub name : label_of after ≡ label_of before
  pub meaning : (rows : List Row) → IsFrame (record { schema = schema; rows = rows }) → (numbers : List ℕ) → AllByRecursion (λ n. n < length rows) numbers → meaning registry (record { schema = schema; rows = rows }) after numbers ≡ meaning registry (record { schema = schema; rows = rows }) before numbers

-- the one expression says so the same as the other, and is related to it
pub record IsLike (related : Expression → Expression → Type 0) (registry : Registry) (schema : Columns) (before after : Expression) : Type 0 where
  pub same : IsSameOnFrames registry schema before after
  pub relates : related before after

-- a node over children that are so related is related to the node over the others
abbrev pub IsCongruent : (Expression → Expression → Type 0) → Registry → Columns → Type 0
IsCongruent related registry schema =
    (op : Op) (before after : Trees Op) → AllRelated (IsLike related registry schema) before after → related (node op before) (node op after)

abbrev pub IsTransitive : (Expression → Expression → Type 0) → Type 0
IsTransitive related = (t u w : Expression) → related t u → related u w → related t w

-- a node over children that are so related is settled just where the node over the others is
abbrev pub IsSteady : (Expression → Bool) → (Expression → Expression → Type 0) → Registry → Columns → Type 0
IsSteady settled related registry schema =
    (op : Op) (before after : Trees Op) → AllRelated (IsLike related registry schema) before after → settled (node op after) ≡ settled (node op before)

-- each that has a typing has a type of columns, and is no number without a type
abbrev pub AllKnown : Registry → Columns → Trees Op → Type 0
AllKnown registry schema no_more = Unit
AllKnown registry schema (more child rest) = ((typed : Typed) → typing registry schema child ≡ Ok typed → is_known typed.type ≡ true) × AllKnown registry schema rest

-- no node is called settled of which an input is a number without a type, whatever stands beside it
abbrev pub SettlesNoNumber : (Expression → Bool) → Registry → Columns → Type 0
SettlesNoNumber settled registry schema =
    (op : Op) (children : Trees Op) → settled (node op children) ≡ true → AllKnown registry schema children

-- What is put in place of a node that denoted the tree: the arena with it denotes a finite tree there, which has the type,
-- name and meaning of the old one, is related to it, and is no number without a type. Where the old one has no typing, the
-- new one has none by the same kind. A number without a type that was there counts as one of the type that it has alone. The
-- measure falls, that of each new node below is smaller too, and each number without a type below was there before.
pub record IsReplacement (related : Expression → Expression → Type 0) (measure : Expression → ℕ) (registry : Registry) (schema : Columns) (old new : List AExpr) (at : ℕ) (before : Expression) : Type 0 where
  pub tree : Expression
  pub denotes : Denotes (HoldsExpression new) at tree
  pub like : (typed : Typed) → typing registry schema before ≡ Ok typed → IsLike related registry schema (settled before) tree
  pub ill_typed : (kind : ErrorKind) → typing registry schema before ≡ Err kind → IsLike related registry schema before tree
  pub known : (typed : Typed) → typing registry schema tree ≡ Ok typed → is_known typed.type ≡ true
  pub falls : measure tree < measure before
  pub fresh : (n : ℕ) (t : Expression) → length old ≤ n → IsReached new (at ∷ []) n → Denotes (HoldsExpression new) n t → measure t < measure before
  pub numbers : (n : ℕ) (number : ℤ) (value : Val) (inputs : List ℕ) → IsReached new (at ∷ []) n → HoldsExpression new n (LiteralOp (Untyped number) value) inputs → IsReached old (at ∷ []) n

-- the table keeps a number's own type for the node
pub record KeepsNumber (table : TypeTable) (n : ℕ) : Type 0 where
  pub own : Inferred
  pub number : ℤ
  pub keeps : KeepsEntry table n own
  pub is : (typed_of own).type ≡ Untyped number

-- it is kept of the node that it takes its operands as they are
pub record KeepsAsTheyAre (table : TypeTable) (n : ℕ) : Type 0 where
  pub own : Inferred
  pub keeps : KeepsEntry table n own
  pub none : own.operands ≡ []

-- nothing is kept
abbrev pub KeepsNone : TypeTable → Type 0
KeepsNone table = (n : ℕ) → ¬ (IsKept table n)

-- what was kept still is, or nothing is any more, which is so only there
abbrev pub ExtendsUnless : Type 0 → TypeTable → TypeTable → Type 0
ExtendsUnless forgets old new = Extends old new ⊎ (forgets × KeepsNone new)

-- nothing is forgotten anywhere
abbrev pub NeverForgets : (List AExpr → TypeTable → ℕ → Type 0) → Type 0
NeverForgets forgets = (items : List AExpr) (table : TypeTable) (n : ℕ) → ¬ (forgets items table n)

-- ---- the rule of coercion

-- whether a node is strict
abbrev pub is_strict_node : Registry → Columns → Op → Inputs → Bool
is_strict_node registry schema op inputs = is_strict_over registry schema op inputs.typings

-- whether it is settled: it is strict, and no cast that can be told beforehand once what stands under it is written out
abbrev pub is_settled : Registry → Columns → Expression → Bool
is_settled registry schema tree = said (is_strict_node registry schema) registry schema tree && stays (coerced registry schema tree)

-- How often it is replaced until it is. What isn't strict becomes so, and may be a cast of a literal then; a cast of
-- LogicalAnd or LogicalOr makes way for what may not be strict.
abbrev pub until_settled : Registry → Columns → Expression → ℕ
until_settled registry schema tree =
    until_gone (coerced registry schema tree) + (if said (is_strict_node registry schema) registry schema tree then 0 else 2)

-- both are one expression once they are written out
abbrev pub HasSameWritten : Registry → Columns → Expression → Expression → Type 0
HasSameWritten registry schema before after = written_out registry schema after ≡ written_out registry schema before

-- ---- nodes of plans

-- the node is a plan's, and each of its inputs keeps every rule, with some arena of expressions, that on a predicate's type aside
pub record IsPlanNode (registry : Registry) (expressions : List AExpr) (plans : List IR) (n : ℕ) (op : PlanOp (Named Expression)) (inputs : Trees (PlanOp (Named Expression))) : Type 0 where
  pub denotes : Denotes (HoldsPlan expressions plans) n (node op inputs)
  pub each : AllByRecursion (λ m. (schema : Columns) × HasUncheckedSchema registry plans m schema) denotes.0

pub record HasUncheckedInputs (registry : Registry) (expressions : List AExpr) (plans : List IR) (n : ℕ) : Type 0 where
  pub op : PlanOp (Named Expression)
  pub inputs : Trees (PlanOp (Named Expression))
  pub is : IsPlanNode registry expressions plans n op inputs

-- such a node of that kind, into which the schema goes
pub record StandsOver (registry : Registry) (expressions : List AExpr) (plans : List IR) (n : ℕ) (kind : PlanKind (Named Expression)) (schema : Columns) : Type 0 where
  pub op : PlanOp (Named Expression)
  pub inputs : Trees (PlanOp (Named Expression))
  pub is : IsPlanNode registry expressions plans n op inputs
  pub of_kind : op.kind ≡ kind
  pub into : GoesInto registry plans kind is.denotes.0 schema

-- the node is a plan's, and its inputs are accepted
pub record HasAcceptedInputs (registry : Registry) (expressions : List AExpr) (plans : List IR) (n : ℕ) : Type 0 where
  pub op : PlanOp (Named Expression)
  pub inputs : Trees (PlanOp (Named Expression))
  pub denotes : Denotes (HoldsPlan expressions plans) n (node op inputs)
  pub accepted : AllAccepted registry inputs

-- the plan's node is settled
abbrev pub IsSettledPlan : (Registry → Columns → PlanKind (Named Expression) → Bool) → Registry → List AExpr → List IR → ℕ → Type 0
IsSettledPlan settled registry expressions plans n =
    (kind : PlanKind (Named Expression)) (schema : Columns) → StandsOver registry expressions plans n kind schema → settled registry schema kind ≡ true

-- the typing of a predicate, where it is that of truth values, or why it is refused
abbrev pub truth_of : Result Typed ErrorKind → Result Typed ErrorKind
truth_of (Err kind) = Err kind
truth_of (Ok typed) = if is_truth typed.type then Ok typed else Err InvalidOperation

-- what holds of the typing of a filter's predicate, or else, of any other node
abbrev pub RefusesPredicate : (Result Typed ErrorKind → Type 0) → Type 0 → Registry → Columns → PlanKind (Named Expression) → Type 0
RefusesPredicate refused other registry schema (OverKind FilterWork ((predicate ∷ []) ∷ [])) = refused (truth_of (typing registry schema predicate.expression))
RefusesPredicate refused other registry schema kind = other

-- What is put in place of a plan's node: the arena with it denotes a plan there, over such inputs, which are accepted where
-- they were. Where it is a filter the node was one, over an input of the same schema.
pub record IsPlanReplacement (registry : Registry) (expressions : List AExpr) (old new : List IR) (n : ℕ) : Type 0 where
  pub over : HasUncheckedInputs registry expressions new n
  pub accepted : HasAcceptedInputs registry expressions old n → HasAcceptedInputs registry expressions new n
  pub filter : (predicate : Named Expression) (schema : Columns) → StandsOver registry expressions new n (FilterKind predicate) schema → (before : Named Expression) × StandsOver registry expressions old n (FilterKind before) schema

-- whether there is a typing
abbrev pub is_ok_typed : Result Typed ErrorKind → Bool
is_ok_typed (Err kind) = false
is_ok_typed (Ok typed) = true

-- whether the predicate of a filter has the type of truth values; nothing is asked of other nodes
abbrev pub has_truth : Registry → Columns → PlanKind (Named Expression) → Bool
has_truth registry schema (OverKind FilterWork ((predicate ∷ []) ∷ [])) = is_ok_typed (truth_of (typing registry schema predicate.expression))
has_truth registry schema kind = true
