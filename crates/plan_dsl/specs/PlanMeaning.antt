-- What a query's plan means on tables.
-- Its expressions are evaluated by their meaning. Tables fit a plan where each scan's number names a frame
-- of exactly the scan's schema.
use Rattle.std.specs.Prelude.{List, slice_get, Option, Some, None}
use Rattle.std.specs.List.{AllByRecursion}
use Rattle.plan_types.specs.Schemas.{Columns}
use Rattle.plan_types.specs.Outcomes.{Outcome, Meets}
use Rattle.plan_types.specs.Frames.{Frame, IsFrameOf}
use Rattle.plan_dsl.specs.Registry.{Registry}
use Rattle.plan_dsl.specs.Trees.{fold}
use Rattle.plan_dsl.specs.Plans.{Plan, Scan, scans_in}
use Rattle.plan_dsl.specs.Literals.{settled}
use Rattle.plan_dsl.specs.Typing.{typing}
use Rattle.plan_dsl.specs.Meaning.{meaning}
use Rattle.plan_dsl.specs.PlanKernels.{Evaluation, plan_kernel}

-- evaluation by meaning
abbrev pub by_meaning : Registry → Evaluation
by_meaning registry frame output =
    record { name = output.label.name; typing = typing registry frame.schema (settled output.expression); gives = meaning registry frame (settled output.expression) }

-- what a plan means: a frame or a data fault
abbrev pub source_meaning : Registry → List Frame → Plan → Outcome Frame
source_meaning registry tables plan = fold (plan_kernel tables (by_meaning registry)) plan

-- there is a frame, of exactly the schema
abbrev pub HasTable : Columns → Option Frame → Type 0
HasTable schema None = ⊥
HasTable schema (Some frame) = IsFrameOf schema frame

-- the tables have each table that is scanned
abbrev pub HasTables : List Frame → List Scan → Type 0
HasTables tables scans = AllByRecursion (λ scan. HasTable scan.schema (slice_get tables scan.table)) scans

-- the tables have those that a plan scans
abbrev pub FitsPlan : List Frame → Plan → Type 0
FitsPlan tables plan = HasTables tables (scans_in plan)

-- there is a schema, and what is given is a frame of it or a data fault
abbrev pub MeetsWhere : Option Columns → Outcome Frame → Type 0
MeetsWhere None outcome = ⊥
MeetsWhere (Some schema) outcome = Meets (IsFrameOf schema) outcome
