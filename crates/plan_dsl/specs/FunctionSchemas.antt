-- The schema of what a function makes, as it is answered over the schema of its input.
use Rattle.std.specs.Prelude.{◌≡◌, ◌⊎◌, List, [], Option, Result, IfOk, IfErr}
use Rattle.std.specs.List.{Contains}
use Rattle.std.specs.Borrow.{Bor}
use Rattle.std.specs.Map.{lookup}
use Rattle.std.specs.Option.{option_map}
use Rattle.plan_types.specs.Errors.{at_top, no_memory}
use Rattle.plan_types.specs.Schemas.{Name, Columns, columns, same_name}
use Rattle.plan_types.specs.declared.error.ErrorKind.{ErrorKind}
use Rattle.plan_types.specs.declared.error.PlanError.{PlanError}
use Rattle.plan_types.specs.declared.schema.Schema.{Schema}
use Rattle.plan_dsl.specs.PlanRules.{work_kinds, work_schema}
use Rattle.plan_dsl.specs.Plans.{Work}

-- memory ran out, or it is one of the kinds
abbrev pub IsOneOf : List ErrorKind → PlanError → Type 0
IsOneOf kinds error = (error ≡ no_memory) ⊎ ((error ≡ at_top error.kind) × Contains kinds error.kind)

-- a work without expressions breaks no rule over the schema, and makes that schema of it; or a kind of rule that it breaks
pub record HasWorkSchema (work : Work) (schema : Columns) (result : Result Schema PlanError) : Type 0 where
  pub unbroken : IfOk result (λ own. work_kinds work schema [] ≡ [])
  pub ok : IfOk result (λ own. columns own ≡ work_schema work schema [])
  pub err : IfErr result (IsOneOf (work_kinds work schema []))

-- the name that entries of borrowed names give one
abbrev pub found_name : List (Bor Name × Bor Name) → Name → Option Name
found_name entries name = option_map (λ own. own.now) (lookup (λ key. same_name name key.now) entries)
