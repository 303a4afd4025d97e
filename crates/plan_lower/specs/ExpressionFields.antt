-- Why an expression has no field: it has no node, or no type.
use Rattle.std.specs.Prelude.{◌≡◌, ◌⊎◌, true, false}
use Rattle.plan_types.specs.Errors.{IsMemoryOr, IsRefusal}
use Rattle.plan_types.specs.Schemas.{Columns}
use Rattle.plan_types.specs.declared.error.ErrorKind.TheVariants.{InvalidOperation}
use Rattle.plan_types.specs.declared.error.PlanError.{PlanError}
use Rattle.plan_dsl.specs.Aliases.{pruned}
use Rattle.plan_dsl.specs.Registry.{Registry}
use Rattle.plan_dsl.specs.Sources.{Source, is_plain, unwritten}
use Rattle.plan_dsl.specs.Typing.{typing}
use Rattle.plan_lower.specs.TopNumbers.{settled_at_top, settles_at_top}

-- A marker or a renaming form is left in the source expression, or a number at its top fits no type; or it is refused as
-- its typing is, in which a horizontal is a node.
pub data IsFieldRefusal (registry : Registry) (schema : Columns) (source : Source) (error : PlanError) : Type 0 where
  has_no_node : IsMemoryOr InvalidOperation ((is_plain source ≡ false) ⊎ (settles_at_top (unwritten source) ≡ false)) error → IsFieldRefusal registry schema source error
  has_no_type : is_plain source ≡ true → IsRefusal (typing registry schema (pruned true false (settled_at_top (unwritten source)))) error → IsFieldRefusal registry schema source error
