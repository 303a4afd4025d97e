-- The name and type of an expression's column.
use Rattle.std.specs.Prelude.{◌≡◌, Ok}
use Rattle.plan_types.specs.Types.{Ty, ty}
use Rattle.plan_types.specs.Schemas.{Columns}
use Rattle.plan_types.specs.declared.field.Field.{Field}
use Rattle.plan_dsl.specs.Registry.{Registry}
use Rattle.plan_dsl.specs.Names.{name_of}
use Rattle.plan_dsl.specs.Ops.{Expression}
use Rattle.plan_dsl.specs.PlanRules.{type_in_groups}
use Rattle.plan_dsl.specs.Typing.{Typed, typing}
use Rattle.plan_infer.specs.declared.field.Context.{Context}
use Rattle.plan_infer.specs.declared.field.Context.TheVariants.{Default, Aggregation}

-- the type of a column in a context: in an aggregation one that may have another length than one is a list
abbrev pub type_in : Context → Typed → Ty
type_in Default typed = typed.type
type_in Aggregation typed = type_in_groups typed

-- the field has the expression's name, and the type that it has in the context
pub record IsFieldOf (registry : Registry) (schema : Columns) (ctxt : Context) (tree : Expression) (field : Field) : Type 0 where
  pub name : field.name ≡ name_of tree
  pub typed : Typed
  pub typed_is : typing registry schema tree ≡ Ok typed
  pub type : ty field.dtype ≡ type_in ctxt typed
