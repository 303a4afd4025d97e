-- Lowered plans.
-- A lowered plan is built from a query's plan where it is accepted, strict and named, has the schema that the
-- query's plan has, gives on all fitting tables what the query means, and has no more casts and nodes than the query's plan
-- calls for. A refusal names a broken rule.
use Rattle.std.specs.Prelude.{◌≡◌, ℕ, List, [], ◌∷◌, map, Option, Some, None, is_some, unwrap_or, slice_get, IsTrue, Result, Ok, Err}
use Rattle.plan_types.specs.Schemas.{Columns}
use Rattle.plan_types.specs.Frames.{Frame}
use Rattle.plan_types.specs.Errors.{no_memory}
use Rattle.plan_types.specs.declared.error.PlanError.{PlanError}
use Rattle.plan_dsl.specs.Registry.{Registry}
use Rattle.plan_dsl.specs.Trees.{node, no_more, more}
use Rattle.plan_dsl.specs.Ops.{Expression}
use Rattle.plan_dsl.specs.Plans.{Named, PlanOp, Plan, named, scan_op, filter_op}
use Rattle.plan_dsl.specs.Sources.{Source}
use Rattle.plan_dsl.specs.PlanRules.{schema_of, IsWellFormed, Breaks}
use Rattle.plan_dsl.specs.PlanMeaning.{source_meaning, FitsPlan}
use Rattle.plan_arena.specs.declared.aexpr.AExpr.{AExpr}
use Rattle.plan_arena.specs.declared.ir.IR.{IR}
use Rattle.plan_arena.specs.declared.plan.IRPlan.{IRPlan}
use Rattle.plan_arena.specs.Denotation.{Denotes}
use Rattle.plan_arena.specs.Layers.{Layer, layer, op_of}
use Rattle.plan_arena.specs.Items.{DenoteNamed, HoldsPlan, DenotesPlan, plan_layer}
use Rattle.plan_arena.specs.Runs.{IsAccepted, IsStrictPlan, IsNamedPlan, plan_run, RunsSoundly}
use Rattle.plan_bounds.specs.Bounds.{IsBounded}
use Rattle.plan_bounds.specs.LoweredPlans.{IsLoweredPlan, IsWidePlan}
use Rattle.plan_properties.specs.Splitting.{IsSplitPlan, split_predicate}
use Rattle.plan_lower.specs.Outputs.{lowered_named}
use Rattle.plan_lower.specs.Predicates.{HasExpandedPredicate}

-- what is built from a well-formed plan, and the schema of both
pub record IsBuilt (registry : Registry) (source lowered : Plan) (schema : Columns) : Type 0 where
  pub well_formed : IsWellFormed registry source
  pub source_schema : schema_of registry source ≡ Some schema
  pub lowered_schema : schema_of registry lowered ≡ Some schema
  pub accepted : IsAccepted registry lowered
  pub strict : IsStrictPlan registry lowered
  pub names : IsNamedPlan lowered
  pub wide : IsWidePlan lowered
  pub fits : (tables : List Frame) → FitsPlan tables source → FitsPlan tables lowered
  pub split : IsSplitPlan lowered
  pub same : (tables : List Frame) → FitsPlan tables source → plan_run registry tables lowered ≡ source_meaning registry tables source
  pub bounds : IsBounded registry source lowered

-- the node denotes what was built from the plan, and both have the schema
pub record StandsFor (registry : Registry) (expressions : List AExpr) (plans : List IR) (n : ℕ) (schema : Columns) (plan : Plan) : Type 0 where
  pub lowered : Plan
  pub denotes : Denotes (HoldsPlan expressions plans) n lowered
  pub built : IsBuilt registry plan lowered schema

-- why a plan isn't lowered: memory ran out, or a rule of that kind is broken at that place, and so the plan
-- is not well formed
pub data IsPlanRefusal (registry : Registry) (plan : Plan) (error : PlanError) : Type 0 where
  out_of_memory : error ≡ no_memory → IsPlanRefusal registry plan error
  broken : Breaks registry error.kind error.place plan → ¬ (IsWellFormed registry plan) → IsPlanRefusal registry plan error

-- a lowered plan answers a well-formed one, and a refusal says why there is none
abbrev pub Answers : Registry → Plan → Result IRPlan PlanError → Type 0
Answers registry plan (Ok lowering) = IsWellFormed registry plan
Answers registry plan (Err error) = IsPlanRefusal registry plan error

-- the top denotes a plan that is accepted, strict and named, with the schema of the query's plan
pub record IsTyped (registry : Registry) (plan : Plan) (lowering : IRPlan) : Type 0 where
  pub tree : Plan
  pub denotes : DenotesPlan lowering tree
  pub accepted : IsAccepted registry tree
  pub strict : IsStrictPlan registry tree
  pub names : IsNamedPlan tree
  pub schema : schema_of registry plan ≡ schema_of registry tree

-- no filter of the plan that the top denotes can be split further
abbrev pub IsSplit : IRPlan → Type 0
IsSplit lowering = (tree : Plan) → DenotesPlan lowering tree → IsSplitPlan tree

-- the plan that the top denotes is a lowered one
abbrev pub HasLoweredTop : Registry → IRPlan → Type 0
HasLoweredTop registry lowering = (tree : Plan) → DenotesPlan lowering tree → IsLoweredPlan registry tree

-- it has no more casts than the query's plan needs, no more of them to the type that is there, and no more nodes
abbrev pub HasBoundedTop : Registry → Plan → IRPlan → Type 0
HasBoundedTop registry plan lowering = (tree : Plan) → DenotesPlan lowering tree → IsBounded registry plan tree

-- on tables that fit the query's plan no node is stuck, and the frame of each has the node's own schema
abbrev pub IsSound : Registry → Plan → IRPlan → Type 0
IsSound registry plan lowering =
    (tree : Plan) → DenotesPlan lowering tree → (tables : List Frame) → FitsPlan tables plan → RunsSoundly registry tables tree

-- on tables that fit the query's plan the lowered one gives what the query means, fault for fault
abbrev pub GivesSameFrame : Registry → Plan → IRPlan → Type 0
GivesSameFrame registry plan lowering =
    (tree : Plan) → DenotesPlan lowering tree → (tables : List Frame) → FitsPlan tables plan → plan_run registry tables tree ≡ source_meaning registry tables plan

-- all that lowering promises of the plan that the top denotes
pub record IsLoweringOf (registry : Registry) (plan : Plan) (lowering : IRPlan) (tree : Plan) : Type 0 where
  pub well_formed : IsWellFormed registry plan
  pub denotes : DenotesPlan lowering tree
  pub accepted : IsAccepted registry tree
  pub strict : IsStrictPlan registry tree
  pub names : IsNamedPlan tree
  pub split : IsSplitPlan tree
  pub schema : schema_of registry plan ≡ schema_of registry tree
  pub sound : (tables : List Frame) → FitsPlan tables plan → RunsSoundly registry tables tree
  pub same_frame : (tables : List Frame) → FitsPlan tables plan → plan_run registry tables tree ≡ source_meaning registry tables plan
  pub wide : IsWidePlan tree
  pub bounds : IsBounded registry plan tree

-- a filter in a query, resolved
abbrev pub resolved_filter : Expression → Plan → Plan
resolved_filter tree input = node (filter_op (named tree)) (more input no_more)

-- the node is the empty table
abbrev pub IsEmptyTableAt : List IR → ℕ → Type 0
IsEmptyTableAt plans n = slice_get (map plan_layer plans) n ≡ Some (layer (scan_op None []) [])

abbrev pub recorded_in : Option (Layer (PlanOp (Named ℕ))) → Option Columns
recorded_in None = None
recorded_in (Some item) = (op_of item).recorded

-- the schema that the item at the node records
abbrev pub recorded_at : List IR → ℕ → Option Columns
recorded_at plans n = recorded_in (slice_get (map plan_layer plans) n)

-- it records one
abbrev pub Records : List IR → ℕ → Type 0
Records plans n = IsTrue (is_some (recorded_at plans n))

-- the columns of the one that it records
abbrev pub columns_at : List IR → ℕ → Columns
columns_at plans n = unwrap_or (recorded_at plans n) []

-- nodes are filters by the predicates, each over the next, and the last over the input
abbrev pub AreFilters : List IR → ℕ → List (Named ℕ) → ℕ → Type 0
AreFilters plans n [] input = n ≡ input
AreFilters plans n (predicate ∷ predicates) input =
    (below : ℕ) × (slice_get (map plan_layer plans) n ≡ Some (layer (filter_op predicate) (below ∷ []))) × AreFilters plans below predicates input

-- the node is a filter by what stands for the source expression, split, over an input of the schema
pub record IsFilterAt (registry : Registry) (schema : Columns) (expressions : List AExpr) (plans : List IR) (n input : ℕ) (source : Source) : Type 0 where
  pub predicate : Named ℕ
  pub has : HasExpandedPredicate registry schema expressions source predicate
  pub parts : List (Named ℕ)
  pub denote : DenoteNamed expressions parts (split_predicate (lowered_named has.lowered.output))
  pub filters : AreFilters plans n parts input
