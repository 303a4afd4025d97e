-- How many casts a query's plan needs, how large a plan is, and how large a query's becomes at most.
-- Expressions are counted over the schema of the input over which they are typed, and not where that has none.
use Rattle.std.specs.Prelude.{ℕ, ◌+◌, Bool, true, false, List, Option, Some, None, sum, sum_by}
use Rattle.plan_types.specs.Schemas.{Columns}
use Rattle.plan_dsl.specs.Literals.{settled}
use Rattle.plan_dsl.specs.Ops.{Expression}
use Rattle.plan_dsl.specs.PlanRules.{input_schema, schemas_of}
use Rattle.plan_dsl.specs.Plans.{Named, OverInput, PlanKind, PlanOp, Plan, expressions_of}
use Rattle.plan_dsl.specs.Registry.{Registry}
use Rattle.plan_dsl.specs.Trees.{Trees, node, no_more, more, fold}
use Rattle.plan_bounds.specs.Counts.{needed_casts, other_nodes, idle_casts}
use Rattle.plan_bounds.specs.Laws.{in_all}

-- expressions over an input: those over one without schema aren't counted
module _ (count : Registry → Columns → Expression → ℕ) (registry : Registry) where
  abbrev pub over_schema : Option Columns → List (Named Expression) → ℕ
  over_schema None outputs = 0
  over_schema (Some schema) outputs = in_all (count registry schema) outputs

  abbrev pub over_inputs : List (Option Columns) → List (OverInput (Named Expression)) → ℕ
  over_inputs inputs es = sum_by (λ e. over_schema (input_schema inputs e.input) e.outputs) es

-- What a query's node calls for besides its expressions, by the schemas of its inputs: casts, those of them to the type that
-- is there, and nodes. The kinds that stand call for none.
abbrev pub OwnCount : Type 0
OwnCount = PlanKind (Named Expression) → List (Option Columns) → ℕ

abbrev pub own_needs : OwnCount
own_needs kind schemas = 0

abbrev pub own_idle : OwnCount
own_idle kind schemas = 0

abbrev pub own_most : OwnCount
own_most kind schemas = 0

-- a plan as it stands, as a lowered one, has no more than its expressions
abbrev pub own_where : Bool → OwnCount → OwnCount
own_where true own kind schemas = own kind schemas
own_where false own kind schemas = 0

module _ (count : Registry → Columns → Expression → ℕ) (own : OwnCount) (registry : Registry) where
  abbrev mutual
    -- in the expressions of all nodes, and of the nodes themselves
    pub in_plan : Plan → ℕ
    in_plan (node op inputs) = over_inputs count registry (schemas_of registry inputs) (expressions_of op.kind) + own op.kind (schemas_of registry inputs) + in_plans inputs

    pub in_plans : Trees (PlanOp (Named Expression)) → ℕ
    in_plans no_more = 0
    in_plans (more plan rest) = in_plan plan + in_plans rest

-- those that an expression needs as a plan's node takes it
abbrev pub settled_needs : Bool → Registry → Columns → Expression → ℕ
settled_needs write registry schema tree = needed_casts write registry schema (settled tree)

-- the casts that a plan needs, and its casts to the type that is there, as it stands or as a query's, with its horizontals
-- written out
abbrev pub plan_needs : Bool → Registry → Plan → ℕ
plan_needs write = in_plan (settled_needs write) (own_where write own_needs)

abbrev pub plan_idle : Bool → Registry → Plan → ℕ
plan_idle write = in_plan (idle_casts write) (own_where write own_idle)

-- the nodes of expressions side by side but for casts, as they stand or written out
abbrev pub nodes_in : Bool → List (OverInput (Named Expression)) → ℕ
nodes_in write es = sum_by (λ e. in_all (other_nodes write) e.outputs) es

-- how large a plan is: its nodes, and those of its expressions but for casts
abbrev pub plan_size : Plan → ℕ
plan_size plan = fold (λ op below. 1 + nodes_in false (expressions_of op.kind) + sum below) plan

-- how large a query's plan becomes at most: its nodes, those of its expressions written out, but for casts, and what its nodes
-- call for themselves
abbrev mutual
  pub plan_most : Registry → Plan → ℕ
  plan_most registry (node op inputs) = 1 + nodes_in true (expressions_of op.kind) + own_most op.kind (schemas_of registry inputs) + plans_most registry inputs

  pub plans_most : Registry → Trees (PlanOp (Named Expression)) → ℕ
  plans_most registry no_more = 0
  plans_most registry (more plan rest) = plan_most registry plan + plans_most registry rest
