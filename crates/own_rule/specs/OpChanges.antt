-- Expressions of which some nodes do something else with the same operands, by what these are typed.
use Rattle.std.specs.Prelude.{◌≡◌, ℕ, Bool, true, false, not, List, Result, Ok, if◌then◌else◌}
use Rattle.plan_types.specs.Schemas.{Columns}
use Rattle.plan_types.specs.Types.{is_known}
use Rattle.plan_types.specs.declared.error.ErrorKind.{ErrorKind}
use Rattle.plan_dsl.specs.Literals.{settled}
use Rattle.plan_dsl.specs.Names.{Label, op_label}
use Rattle.plan_dsl.specs.Ops.{Op, Expression}
use Rattle.plan_dsl.specs.Registry.{Registry}
use Rattle.plan_dsl.specs.Trees.{Trees, node, no_more, more}
use Rattle.plan_dsl.specs.Typing.{Typed, Ruling, rule, typing_all}
use Rattle.plan_arena.specs.declared.aexpr.AExpr.{AExpr}
use Rattle.plan_arena.specs.Items.{expression_layer}
use Rattle.plan_arena.specs.Layers.{inputs_of, layer, op_of}
use Rattle.plan_coerce.specs.Rules.{Inputs, IsSameOnFrames}

-- what a node does instead, over operands that are typed so
abbrev pub Change : Type 0
Change = Op → Result (List Typed) ErrorKind → Op

-- an expression of which each node does that
abbrev mutual
  pub changed : Change → Registry → Columns → Expression → Expression
  changed change registry schema (node op children) = node (change op (typing_all registry schema children)) (all_changed change registry schema children)

  pub all_changed : Change → Registry → Columns → Trees Op → Trees Op
  all_changed change registry schema no_more = no_more
  all_changed change registry schema (more child rest) = more (changed change registry schema child) (all_changed change registry schema rest)

-- both are one expression when they are changed
abbrev pub HasSameChanged : Change → Registry → Columns → Expression → Expression → Type 0
HasSameChanged change registry schema before after = changed change registry schema after ≡ changed change registry schema before

-- whether a node is to be changed, over operands that are typed so
abbrev pub Finds : Type 0
Finds = Op → Result (List Typed) ErrorKind → Bool

-- whether a node stays as it is, and how often it is replaced until it does
abbrev pub stays_by : Finds → Registry → Columns → Op → Inputs → Bool
stays_by finds registry schema op inputs = not (finds op inputs.typings)

abbrev pub until_stays_by : Finds → Registry → Columns → Op → Inputs → ℕ
until_stays_by finds registry schema op inputs = if finds op inputs.typings then 1 else 0

-- ---- what a change has to keep

-- Over inputs that are typed so a node is to be changed, once, and what it does then is the other. Both have one name and one
-- rule, by which they have a type of columns, and are no number; and both say the same.
pub record IsChanged (finds : Finds) (change : Change) (from to : Op) (typed : List Typed) : Type 0 where
  pub found : finds from (Ok typed) ≡ true
  pub is : change from (Ok typed) ≡ to
  pub stays : finds to (Ok typed) ≡ false
  pub again : change to (Ok typed) ≡ to
  pub names : (labels : List Label) → op_label to labels ≡ op_label from labels
  pub rules : (registry : Registry) (schema : Columns) → rule registry schema from typed ≡ rule registry schema to typed
  pub known : (registry : Registry) (schema : Columns) (ruling : Ruling) → rule registry schema from typed ≡ Ok ruling → is_known ruling.own.type ≡ true
  pub plain : (children : Trees Op) → settled (node from children) ≡ node from children
  pub same : (registry : Registry) (schema : Columns) (ruling : Ruling) (children : Trees Op) → rule registry schema from typed ≡ Ok ruling → typing_all registry schema children ≡ Ok typed → IsSameOnFrames registry schema (node from children) (node to children)

-- the one item does so in place of the other, over the same inputs
pub record IsChangedItem (finds : Finds) (change : Change) (before after : AExpr) (typed : List Typed) : Type 0 where
  pub to : Op
  pub is : expression_layer after ≡ layer to (inputs_of (expression_layer before))
  pub changed : IsChanged finds change (op_of (expression_layer before)) to typed
