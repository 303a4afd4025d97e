-- A filter's predicate: an expression with what lowering makes of it.
use Rattle.std.specs.Prelude.{◌≡◌, ℕ, List, [], ◌∷◌, Ok}
use Rattle.plan_types.specs.Types.{Truth}
use Rattle.plan_types.specs.Schemas.{Columns}
use Rattle.plan_types.specs.Errors.{IsRefusal}
use Rattle.plan_types.specs.declared.error.PlanError.{PlanError}
use Rattle.plan_dsl.specs.Registry.{Registry}
use Rattle.plan_dsl.specs.Ops.{Expression}
use Rattle.plan_dsl.specs.Sources.{Source}
use Rattle.plan_dsl.specs.Expansion.{predicate_expansion}
use Rattle.plan_dsl.specs.Plans.{Named, Plan}
use Rattle.plan_arena.specs.declared.aexpr.AExpr.{AExpr}
use Rattle.plan_arena.specs.Items.{DenoteNamed}
use Rattle.plan_properties.specs.Splitting.{filters_over, split_predicate}
use Rattle.plan_lower.specs.Outputs.{Lowered, IsLowered, lowered_named}
use Rattle.plan_lower.specs.Projection.{IsProjectionRefusal}
use Rattle.plan_lower.specs.declared.conversion.asked.Asked.TheVariants.{TruthValue}

-- the expression becomes this output, which is of the type of truth values
pub record FiltersBy (registry : Registry) (schema : Columns) (tree : Expression) (output : Lowered) : Type 0 where
  pub tree_is : output.tree ≡ tree
  pub is : IsLowered registry schema output
  pub truth : output.typed.type ≡ Truth

-- the node stands for the predicate
pub record HasPredicate (registry : Registry) (schema : Columns) (items : List AExpr) (tree : Expression) (node : Named ℕ) : Type 0 where
  pub output : Lowered
  pub filters : FiltersBy registry schema tree output
  pub denotes : DenoteNamed items (node ∷ []) (lowered_named output ∷ [])

-- a source expression is expanded over the schema to one, and the node stands for that
pub record HasExpandedPredicate (registry : Registry) (schema : Columns) (items : List AExpr) (source : Source) (node : Named ℕ) : Type 0 where
  pub tree : Expression
  pub expanded : predicate_expansion schema source ≡ Ok tree
  pub lowered : HasPredicate registry schema items tree node

-- why a source expression can't be a predicate: it isn't expanded to one, or that can't be one
pub data IsUnfiltered (registry : Registry) (schema : Columns) (source : Source) (error : PlanError) : Type 0 where
  not_expanded : IsRefusal (predicate_expansion schema source) error → IsUnfiltered registry schema source error
  no_predicate : (tree : Expression) → predicate_expansion schema source ≡ Ok tree → IsProjectionRefusal registry schema TruthValue (tree ∷ []) error → IsUnfiltered registry schema source error

-- a filter by the output over a lowered plan, split
abbrev pub lowered_filter : Lowered → Plan → Plan
lowered_filter output input = filters_over (split_predicate (lowered_named output)) input
