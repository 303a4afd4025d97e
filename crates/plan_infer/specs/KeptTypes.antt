-- What is inferred of nodes, kept by node.
-- A table keeps entries of nodes from its first number on.
use Rattle.std.specs.Prelude.{◌≡◌, ◌≤◌, ◌-◌, ◌⊎◌, ℕ, suc, false, List, [], ◌∷◌, map, Option, Some, None, Result, Ok, slice_get}
use Rattle.std.specs.List.{AllByRecursion}
use Rattle.plan_types.specs.Types.{Ty, NullType, ty}
use Rattle.plan_types.specs.Schemas.{Columns}
use Rattle.plan_types.specs.declared.dtype.DataType.{DataType}
use Rattle.plan_types.specs.declared.error.ErrorKind.{ErrorKind}
use Rattle.plan_dsl.specs.Registry.{Registry}
use Rattle.plan_dsl.specs.Names.{Label, first_label, label_of, op_label}
use Rattle.plan_dsl.specs.Ops.{Op, Expression}
use Rattle.plan_dsl.specs.Typing.{Typed, Ruling, rule, types_of, typing}
use Rattle.plan_arena.specs.declared.aexpr.AExpr.{AExpr}
use Rattle.plan_arena.specs.Denotation.{Denotes, depth_at}
use Rattle.plan_arena.specs.Layers.{op_of, inputs_of, shape_of}
use Rattle.plan_arena.specs.Items.{AreNamesOver, HoldsExpression, expression_layer}
use Rattle.plan_infer.specs.declared.type_table.Inferred.{Inferred}
use Rattle.plan_infer.specs.declared.type_table.TypeTable.{TypeTable}

-- the typing that an entry says
abbrev pub typed_of : Inferred → Typed
typed_of own = record { type = ty own.dtype; many = own.many }

-- the table keeps this entry for the node
abbrev pub KeepsEntry : TypeTable → ℕ → Inferred → Type 0
KeepsEntry table n own = (table.first ≤ n) × (slice_get table.entries.items (n - table.first) ≡ Some (Some own))

-- the table keeps an entry for the node
pub record IsKept (table : TypeTable) (n : ℕ) : Type 0 where
  pub own : Inferred
  pub keeps : KeepsEntry table n own

-- of how many nodes the table keeps an entry
abbrev pub some_count : {A : Type 0} → List (Option A) → ℕ
some_count [] = 0
some_count (None ∷ rest) = some_count rest
some_count (Some x ∷ rest) = suc (some_count rest)

abbrev pub kept_count : TypeTable → ℕ
kept_count table = some_count table.entries.items

-- the table keeps this type for the node
pub record Keeps (table : TypeTable) (n : ℕ) (dtype : DataType) : Type 0 where
  pub own : Inferred
  pub keeps : KeepsEntry table n own
  pub is : own.dtype ≡ dtype

-- the table keeps what it did, and may keep more
pub record Extends (old new : TypeTable) : Type 0 where
  pub entries : (n : ℕ) (own : Inferred) → KeepsEntry old n own → KeepsEntry new n own

-- the table keeps a type for the node, which is this
pub record KeepsType (table : TypeTable) (n : ℕ) (type : Ty) : Type 0 where
  pub dtype : DataType
  pub keeps : Keeps table n dtype
  pub is : ty dtype ≡ type

-- the table keeps an entry for the node, which says this typing
pub record KeepsTyped (table : TypeTable) (n : ℕ) (typed : Typed) : Type 0 where
  pub own : Inferred
  pub keeps : KeepsEntry table n own
  pub is : typed_of own ≡ typed

-- the typings of the nodes, one by one
abbrev pub AllKept : TypeTable → List ℕ → List Typed → Type 0
AllKept table [] [] = Unit {0}
AllKept table (n ∷ ns) (typed ∷ rest) = KeepsTyped table n typed × AllKept table ns rest
AllKept table [] (typed ∷ rest) = ⊥
AllKept table (n ∷ ns) [] = ⊥

-- the operand types that are kept of a node: those to which it takes operands of these types, or none where it takes
-- them as they are
abbrev pub AreOperands : List Ty → List Ty → List Ty → Type 0
AreOperands listed own targets = (listed ≡ targets) ⊎ ((listed ≡ []) × (own ≡ targets))

-- what is inferred of a node over inputs of these typings is what was found
pub record Says (found : Result Ruling ErrorKind) (typed : List Typed) (own : Inferred) : Type 0 where
  pub ruling : Ruling
  pub rules : found ≡ Ok ruling
  pub is : ruling.own ≡ typed_of own
  pub operands : AreOperands (map ty own.operands) (types_of typed) ruling.operands

-- so it is what its rule says
abbrev pub IsRuled : Registry → Columns → Op → List Typed → Inferred → Type 0
IsRuled registry schema op typed own = Says (rule registry schema op typed) typed own

-- what is kept at a place, if there is something
abbrev pub entry_at : TypeTable → ℕ → Option (Option Inferred)
entry_at table n = slice_get table.entries.items (n - table.first)

-- the typing at a place, and at each of these
abbrev pub typed_by : Option (Option Inferred) → Typed
typed_by (Some (Some own)) = typed_of own
typed_by _ = record { type = NullType; many = false }

abbrev pub typings_at : TypeTable → List ℕ → List Typed
typings_at table ns = map (λ n. typed_by (entry_at table n)) ns

-- the node that names one over these inputs
abbrev pub named_by : ℕ → Option (Option Inferred) → ℕ
named_by n (Some (Some own)) = own.name.0
named_by n _ = n

abbrev pub name_at : TypeTable → ℕ → List ℕ → ℕ
name_at table n [] = n
name_at table n (first ∷ rest) = named_by n (entry_at table first)

-- the node that names an expression: the node itself, or the one that names its first input
pub data IsNamedBy (table : TypeTable) (op : Op) (n : ℕ) (inputs : List ℕ) (name : ℕ) : Type 0 where
  by_itself : name ≡ n → ((names : List Label) → AreNamesOver inputs names → op_label op names ≡ op_label op []) → IsNamedBy table op n inputs name
  by_first : (m : ℕ) (rest : List ℕ) (first : Inferred) → inputs ≡ m ∷ rest → KeepsEntry table m first → name ≡ first.name.0 → ((names : List Label) → op_label op names ≡ first_label names) → IsNamedBy table op n inputs name

-- the item at the number gives the expression its name, whatever its inputs are called
pub record GivesName (items : List AExpr) (n : ℕ) (tree : Expression) : Type 0 where
  pub op : Op
  pub inputs : List ℕ
  pub held : HoldsExpression items n op inputs
  pub gives : (names : List Label) → AreNamesOver inputs names → op_label op names ≡ label_of tree

-- The node denotes an expression of that name and typing, there are entries for its inputs, and the operand types are
-- those of its rule.
pub record IsTypedNode (registry : Registry) (schema : Columns) (items : List AExpr) (table : TypeTable) (n : ℕ) (own : Inferred) : Type 0 where
  pub tree : Expression
  pub denotes : Denotes (HoldsExpression items) n tree
  pub typed : typing registry schema tree ≡ Ok (typed_of own)
  pub name : GivesName items own.name.0 tree
  pub inputs : (op : Op) (inputs : List ℕ) → HoldsExpression items n op inputs → AllByRecursion (IsKept table) inputs
  pub operands : (op : Op) (inputs : List ℕ) (typed : List Typed) (ruling : Ruling) → HoldsExpression items n op inputs → AllKept table inputs typed → rule registry schema op typed ≡ Ok ruling → AreOperands (map ty own.operands) (types_of typed) ruling.operands

-- each entry that the table keeps is right of its node
pub record IsRight (registry : Registry) (schema : Columns) (items : List AExpr) (table : TypeTable) : Type 0 where
  pub each : (n : ℕ) (own : Inferred) → KeepsEntry table n own → IsTypedNode registry schema items table n own

-- each entry that the table keeps is right of its node, over the frames of some schema
pub record HasRightTypes (items : List AExpr) (table : TypeTable) : Type 0 where
  pub registry : Registry
  pub schema : Columns
  pub right : IsRight registry schema items table

-- how far down a node leads
abbrev pub node_depth : List AExpr → ℕ → ℕ
node_depth items n = depth_at (shape_of (map expression_layer items)) n

-- the types to which an item takes its inputs, by what is kept for them
abbrev pub TakesTo : Registry → Columns → TypeTable → AExpr → List Ty → Type 0
TakesTo registry schema table item targets =
    (typed : List Typed) (ruling : Ruling) → AllKept table (inputs_of (expression_layer item)) typed → rule registry schema (op_of (expression_layer item)) typed ≡ Ok ruling → ruling.operands ≡ targets
