-- Laws of the definitions, for all expressions and plans.
use Rattle.std.specs.Prelude.{◌≡◌, ℕ, ℤ, List, [], ◌∷◌, ◌++◌, length, map, Option, Some, None, is_some, option_map, Ok, Err, IsTrue, Bool, true, false}
use Rattle.std.specs.Bool.{Decides}
use Rattle.std.specs.List.{Contains, list_all}
use Rattle.plan_types.specs.Types.{Ty, Untyped, is_known}
use Rattle.plan_types.specs.Schemas.{Name, Columns, HasDistinctNames, repeats, names_of}
use Rattle.plan_types.specs.Values.{Val, IntValue, all_fit}
use Rattle.plan_types.specs.Outcomes.{Done, Meets}
use Rattle.plan_types.specs.Frames.{Frame, Row, IsFrame, IsFrameOf}
use Rattle.plan_types.specs.declared.error.ErrorKind.{ErrorKind}
use Rattle.plan_types.specs.declared.error.ErrorKind.TheVariants.{InvalidOperation}
use Rattle.plan_dsl.specs.Registry.{Registry}
use Rattle.plan_dsl.specs.Ops.{Op, LiteralOp, BinaryOp, Expression}
use Rattle.plan_dsl.specs.Aliases.{IsCore, core, renamed, spelled}
use Rattle.plan_dsl.specs.Trees.{Trees, node, no_more, more, tree_at}
use Rattle.plan_dsl.specs.Plans.{Named, SimpleProjectionWork, PlanKind, RefusedKind, PlanOp, Plan, SourcePlan, scans_in, drop_op}
use Rattle.plan_dsl.specs.Sources.{Source, written, unwritten, is_plain, ColumnsOp, IndexColumnOp, ExcludeOp, same_source}
use Rattle.plan_dsl.specs.Refusals.{joined}
use Rattle.plan_dsl.specs.Markers.{marker_names, names_of_selectors}
use Rattle.plan_dsl.specs.Expansion.{plain, expansion, expansions}
use Rattle.plan_dsl.specs.Drops.{drop_leaves}
use Rattle.plan_dsl.specs.Signatures.{has_flags}
use Rattle.plan_dsl.specs.SortFlags.{sort_flags}
use Rattle.plan_dsl.specs.Resolving.{resolution, resolved_op, resolved}
use Rattle.plan_dsl.specs.Typing.{Typed, Ruling, rule, types_of, typed_to, typing, typing_all, kinds_in}
use Rattle.plan_dsl.specs.declared.operator.Operator.{Operator}
use Rattle.plan_dsl.specs.Operators.{operator_value, swapped}
use Rattle.plan_dsl.specs.OperatorTypes.{pair_to, operator_types}
use Rattle.plan_dsl.specs.Kernels.{operator_values}
use Rattle.plan_dsl.specs.Literals.{settled}
use Rattle.plan_dsl.specs.Meaning.{meaning}
use Rattle.plan_dsl.specs.Strictness.{IsStrict, IsSame, IsStrictOver, as_operands}
use Rattle.plan_dsl.specs.StrictRun.{strict_run}
use Rattle.plan_dsl.specs.PlanRules.{broken_kinds, plan_rule, schema_of, IsWellFormed, Breaks}
use Rattle.plan_dsl.specs.PlanKernels.{Evaluation, over_frame}
use Rattle.plan_dsl.specs.PlanMeaning.{source_meaning, HasTables, FitsPlan}

-- operands that were taken to their types are taken as they are
abbrev pub TakenTypesStay : Type 0
TakenTypesStay = (registry : Registry) (schema : Columns) (op : Op) (typed : List Typed) (ruling : Ruling) → rule registry schema op typed ≡ Ok ruling → rule registry schema op (typed_to typed ruling.operands) ≡ Ok ruling

-- a node over operands that were made of the types to which it takes them says the same, and is strict
abbrev pub TakenOperandsSaySame : Type 0
TakenOperandsSaySame = (registry : Registry) (schema : Columns) (op : Op) (trees : Trees Op) (typed : List Typed) (ruling : Ruling) → typing_all registry schema trees ≡ Ok typed → rule registry schema op typed ≡ Ok ruling → is_known ruling.own.type ≡ true
    → IsSame registry schema (node op trees) (node op (as_operands (types_of typed) ruling.operands trees)) × IsStrictOver registry schema op (as_operands (types_of typed) ruling.operands trees)

-- an operator's node over two operands
abbrev pub operator_node : Operator → Expression → Expression → Expression
operator_node operator left right = node (BinaryOp operator) (more left (more right no_more))

-- Where an operator has one for swapped operands, that takes them to the same types, and gives the same: of two values,
-- of two columns, and of two typed expressions.
pub record SaysSwapped (operator other : Operator) : Type 0 where
  pub types : (a b left right type : Ty) → operator_types operator (a ∷ b ∷ []) ≡ Ok (pair_to left right type) → operator_types other (b ∷ a ∷ []) ≡ Ok (pair_to right left type)
  pub value : (left right type : Ty) (x y : Val) → operator_value other right type y x ≡ operator_value operator left type x y
  pub columns : (left right type : Ty) (xs ys : List Val) → operator_values other right type ys xs ≡ operator_values operator left type xs ys
  pub node_typing : (registry : Registry) (schema : Columns) (a b : Expression) (typed : Typed) → typing registry schema (operator_node operator a b) ≡ Ok typed → typing registry schema (operator_node other b a) ≡ Ok typed
  pub node_meaning : (registry : Registry) (frame : Frame) (a b : Expression) (typed : Typed) → IsFrame frame → typing registry frame.schema (operator_node operator a b) ≡ Ok typed → (rows : List ℕ) → meaning registry frame (operator_node other b a) rows ≡ meaning registry frame (operator_node operator a b) rows

abbrev pub SwappedOperandsSaySame : Type 0
SwappedOperandsSaySame = (operator other : Operator) → swapped operator ≡ Some other → SaysSwapped operator other

-- a strict expression without aliases gives what it means
abbrev pub StrictRunIsMeaning : Type 0
StrictRunIsMeaning = (registry : Registry) (frame : Frame) (tree : Expression) → IsCore tree → IsStrict registry frame.schema tree → strict_run registry frame tree ≡ meaning registry frame tree

-- values of the type, and one alone where there are not many
pub record AreOf (typed : Typed) (values : List Val) : Type 0 where
  pub fitting : IsTrue (all_fit values typed.type)
  pub single : typed.many ≡ false → length values ≡ 1

-- a typed expression is not stuck on a frame, and gives values of its type
abbrev pub MeaningHasType : Type 0
MeaningHasType = (registry : Registry) (frame : Frame) (tree : Expression) (typed : Typed) → IsFrame frame → typing registry frame.schema tree ≡ Ok typed → (rows : List ℕ) → Meets (AreOf typed) (meaning registry frame tree rows)

-- an expression of a number's own type is that number, written without a type, maybe under aliases
abbrev pub OnlyNumbersAreUntyped : Type 0
OnlyNumbersAreUntyped = (registry : Registry) (schema : Columns) (number : ℤ) (tree : Expression) (typed : Typed) → typing registry schema tree ≡ Ok typed → typed.type ≡ Untyped number → tree ≡ renamed tree (node (LiteralOp (Untyped number) (IntValue number)) no_more)

-- what a typed expression says without its aliases: it is typed so, and means the same on any rows
pub record CoreSaysSame (registry : Registry) (schema : Columns) (tree : Expression) (typed : Typed) : Type 0 where
  pub none : IsCore (core tree)
  pub typing : typing registry schema (core tree) ≡ Ok typed
  pub meaning : (rows : List Row) → meaning registry (record { schema = schema; rows = rows }) (core tree) ≡ meaning registry (record { schema = schema; rows = rows }) tree

abbrev pub CoresSaySame : Type 0
CoresSaySame = (registry : Registry) (schema : Columns) (tree : Expression) (typed : Typed) → typing registry schema tree ≡ Ok typed → CoreSaysSame registry schema tree typed

-- What an expression says whose horizontals are written out, beside its core: one is typed just where the other is, and then
-- has no aliases, and means the same on each frame. A number at the top of either gets a type as it does at that of the
-- whole.
pub record SpelledSaysSame (registry : Registry) (schema : Columns) (tree : Expression) : Type 0 where
  pub typed : (typed : Typed) → typing registry schema (core tree) ≡ Ok typed → typing registry schema (spelled tree) ≡ Ok typed
  pub typed_alone : (typed : Typed) → typing registry schema (spelled tree) ≡ Ok typed → typing registry schema (core tree) ≡ Ok typed
  pub none : (typed : Typed) → typing registry schema (core tree) ≡ Ok typed → IsCore (spelled tree)
  pub meaning : (frame : Frame) (typed : Typed) → IsFrame frame → frame.schema ≡ schema → typing registry schema (core tree) ≡ Ok typed → meaning registry frame (spelled tree) ≡ meaning registry frame (core tree)
  pub settled_core : settled (core tree) ≡ core (settled tree)
  pub settled_spelled : settled (spelled tree) ≡ spelled (settled tree)

abbrev pub SpelledSaySame : Type 0
SpelledSaySame = (registry : Registry) (schema : Columns) (tree : Expression) → SpelledSaysSame registry schema tree

-- a typed expression breaks no rule
abbrev pub TypedBreaksNothing : Type 0
TypedBreaksNothing = (registry : Registry) (schema : Columns) (tree : Expression) (typed : Typed) → typing registry schema tree ≡ Ok typed → kinds_in registry schema tree ≡ []

-- the kind for which an expression is refused is one that it breaks
abbrev pub RefusalIsBroken : Type 0
RefusalIsBroken = (registry : Registry) (schema : Columns) (tree : Expression) (kind : ErrorKind) → typing registry schema tree ≡ Err kind → Contains (kinds_in registry schema tree) kind

-- a node without a schema, whose inputs have one, breaks a rule: but for one that is refused by no kind, to which no
-- node over such inputs is resolved
abbrev pub NoSchemaIsBroken : Type 0
NoSchemaIsBroken = (registry : Registry) (op : PlanOp (Named Expression)) (inputs : List Columns) → ¬ (op.kind ≡ RefusedKind []) → plan_rule registry op (map Some inputs) ≡ None → (kind : ErrorKind) × Contains (broken_kinds registry op (map Some inputs)) kind

-- a plan in which a rule is broken at some place is not well formed
abbrev pub BrokenIsIllFormed : Type 0
BrokenIsIllFormed = (registry : Registry) (kind : ErrorKind) (place : List ℕ) (plan : Plan) → Breaks registry kind place plan → ¬ (IsWellFormed registry plan)

-- a well-formed plan is not stuck on fitting tables, and its frame has its schema
abbrev pub MeaningHasSchema : Type 0
MeaningHasSchema = (registry : Registry) (tables : List Frame) (plan : Plan) (schema : Columns) → FitsPlan tables plan → IsWellFormed registry plan → schema_of registry plan ≡ Some schema → Meets (IsFrameOf schema) (source_meaning registry tables plan)

-- a simple projection in a frame's own columns gives the frame
abbrev pub OwnColumnsGiveTheFrame : Type 0
OwnColumnsGiveTheFrame = (evaluate : Evaluation) (frame : Frame) → IsFrame frame → over_frame evaluate (SimpleProjectionWork frame.schema) [] (Done frame) ≡ Done frame

-- what has plans' ops alone is the expression that is written so, and comes to it; all else comes to none
pub record HasPlainOps (source : Source) : Type 0 where
  pub written_so : is_plain source ≡ true → written (unwritten source) ≡ source
  pub found : is_plain source ≡ true → plain source ≡ Ok (unwritten source)
  pub refused : is_plain source ≡ false → plain source ≡ Err InvalidOperation

abbrev pub PlainIsWritten : Type 0
PlainIsWritten = (source : Source) → HasPlainOps source

-- and what is written so has these alone, and is written of that expression
abbrev pub WrittenIsPlain : Type 0
WrittenIsPlain = (tree : Expression) → (is_plain (written tree) ≡ true) × (unwritten (written tree) ≡ tree)

-- an expression that a query writes with plans' ops alone is its own expansion: it alone
abbrev pub WrittenIsExpanded : Type 0
WrittenIsExpanded = (keys : List Name) (schema : Columns) (tree : Expression) → expansion keys schema (written tree) ≡ Ok (tree ∷ [])

-- source expressions that compare equal are one
abbrev pub SameSourcesAreOne : Type 0
SameSourcesAreOne = (tree other : Source) → Decides (same_source tree other) (tree ≡ other)

-- expressions are expanded one by one: those of two lists to what each list is expanded to, one behind the other
abbrev pub ListsAreExpandedApart : Type 0
ListsAreExpandedApart = (keys : List Name) (schema : Columns) (sources others : List Source) → expansions keys schema (sources ++ others) ≡ joined (expansions keys schema sources) (expansions keys schema others)

-- whether a marker stands for names as they are listed, or for those at places as they are listed
abbrev pub is_listed : Source → Bool
is_listed (node (ColumnsOp names) children) = true
is_listed (node (IndexColumnOp places) children) = true
is_listed (node (ExcludeOp excluded) (more marker children)) = is_listed marker
is_listed tree = false

-- any other marker stands for no name twice
abbrev pub MarkersNameOnce : Type 0
MarkersNameOnce = (keys : List Name) (schema : Columns) (marker : Source) (names : List Name) → repeats (names_of schema) ≡ false → is_listed marker ≡ false → marker_names keys schema marker ≡ Ok names → repeats names ≡ false

-- and selectors make none twice
abbrev pub SelectorsNameOnce : Type 0
SelectorsNameOnce = (schema : Columns) (selectors : List Source) (names : List Name) → names_of_selectors schema selectors ≡ Ok names → repeats names ≡ false

-- a query's drop that isn't refused breaks no rule, and has the columns that it leaves of its input's
abbrev pub DropsHaveSchemas : Type 0
DropsHaveSchemas = (registry : Registry) (selectors : List Source) (strict : Bool) (schema columns : Columns) → HasDistinctNames schema → drop_leaves schema selectors strict ≡ Ok columns → plan_rule registry (resolved_op registry (drop_op selectors strict) (Some schema ∷ [])) (Some schema ∷ []) ≡ Some columns

-- the flags of a query's sort that isn't refused are for the keys to which its expressions are expanded
abbrev pub SortsHaveFlags : Type 0
SortsHaveFlags = (schema : Columns) (by : List Source) (descending nulls_last : List Bool) (keys : List Expression) (flags : List Bool × List Bool) → expansions [] schema by ≡ Ok keys → sort_flags schema by descending nulls_last ≡ Ok flags → has_flags flags.0 flags.1 (length keys) ≡ true

-- a query's kind that can't be resolved over inputs that have schemas is refused by some kind of rule
abbrev pub UnresolvedIsTold : Type 0
UnresolvedIsTold = (registry : Registry) (kind : PlanKind Source) (inputs : List Columns) (kinds : List ErrorKind) → resolution registry kind (map Some inputs) ≡ Err kinds → (told : ErrorKind) × Contains kinds told

-- the node at a place of a query's plan stands, resolved, at that place
abbrev pub PlacesStay : Type 0
PlacesStay = (registry : Registry) (plan : SourcePlan) (place : List ℕ) → tree_at (Some (resolved registry plan)) place ≡ option_map (resolved registry) (tree_at (Some plan) place)

-- a query's node that has a schema could be resolved, and breaks no rule
abbrev pub ResolvedBreaksNothing : Type 0
ResolvedBreaksNothing = (registry : Registry) (op : PlanOp Source) (inputs : List (Option Columns)) (schema : Columns) → plan_rule registry (resolved_op registry op inputs) inputs ≡ Some schema → (kind : PlanKind (Named Expression)) × (resolution registry op.kind inputs ≡ Ok kind) × (broken_kinds registry (resolved_op registry op inputs) inputs ≡ [])

-- a query's node over an input without schema has none, and breaks no rule
abbrev pub NothingIsToldAboveARefusal : Type 0
NothingIsToldAboveARefusal = (registry : Registry) (op : PlanOp Source) (inputs : List (Option Columns)) → list_all is_some inputs ≡ false → (plan_rule registry (resolved_op registry op inputs) inputs ≡ None) × (broken_kinds registry (resolved_op registry op inputs) inputs ≡ [])

-- a well-formed query scans, resolved, the tables that it scans as it is written
abbrev pub ScansStay : Type 0
ScansStay = (registry : Registry) (plan : SourcePlan) → IsWellFormed registry (resolved registry plan) → scans_in (resolved registry plan) ≡ scans_in plan

-- on those tables a well-formed query means a frame of its schema, or a data fault
abbrev pub QueryHasSchema : Type 0
QueryHasSchema = (registry : Registry) (tables : List Frame) (plan : SourcePlan) (schema : Columns) → HasTables tables (scans_in plan) → IsWellFormed registry (resolved registry plan) → schema_of registry (resolved registry plan) ≡ Some schema → Meets (IsFrameOf schema) (source_meaning registry tables (resolved registry plan))
