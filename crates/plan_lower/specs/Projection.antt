-- Projections: expressions of one node, lowered together.
use Rattle.std.specs.Prelude.{◌≡◌, ℕ, List, [], ◌∷◌, ◌++◌, map, IsTrue, Ok, Err}
use Rattle.std.specs.List.{AllByRecursion, flat_map}
use Rattle.plan_types.specs.Types.{Ty}
use Rattle.plan_types.specs.Schemas.{Name, Columns, HasDistinctNames}
use Rattle.plan_types.specs.Errors.{no_memory, at_top}
use Rattle.plan_types.specs.declared.error.ErrorKind.{ErrorKind}
use Rattle.plan_types.specs.declared.error.PlanError.{PlanError}
use Rattle.plan_dsl.specs.Registry.{Registry}
use Rattle.plan_dsl.specs.Ops.{Expression}
use Rattle.plan_dsl.specs.Sources.{Source}
use Rattle.plan_dsl.specs.Expansion.{expansions}
use Rattle.plan_dsl.specs.Names.{label_of, name_of}
use Rattle.plan_dsl.specs.PlanRules.{type_kinds}
use Rattle.plan_dsl.specs.Plans.{Named}
use Rattle.plan_dsl.specs.Aliases.{core, spelled}
use Rattle.plan_dsl.specs.Literals.{settled}
use Rattle.plan_dsl.specs.Typing.{Typed, typing}
use Rattle.plan_arena.specs.declared.aexpr.AExpr.{AExpr}
use Rattle.plan_arena.specs.Denotation.{Denotes}
use Rattle.plan_arena.specs.Items.{HoldsFrom}
use Rattle.plan_arena.specs.Runs.{NamesOperands}
use Rattle.plan_bounds.specs.LoweredPlans.{has_wide_horizontals}
use Rattle.plan_expand.specs.Refusals.{IsUnexpanded}
use Rattle.plan_lower.specs.Asked.{asked_columns, asked_kinds, asked_work}
use Rattle.plan_lower.specs.declared.conversion.asked.Asked.{Asked}
use Rattle.plan_lower.specs.declared.conversion.asked.Asked.TheVariants.{NewName}

-- an expression, its node and its type
pub record Output : Type 0 where
  pub tree : Expression
  pub node : ℕ
  pub typed : Typed

abbrev pub output_node : Output → Named ℕ
output_node output = record { label = label_of output.tree; expression = output.node }

abbrev pub output_column : Output → Name × Ty
output_column output = (name_of output.tree, output.typed.type)

-- The expression as a plan takes it has the type. The node denotes it with its horizontals written out, in which the
-- operands of functions have names, and each horizontal is wide.
pub record IsOutput (registry : Registry) (schema : Columns) (first : ℕ) (items : List AExpr) (output : Output) : Type 0 where
  pub denotes : Denotes (HoldsFrom first items) output.node (settled (spelled output.tree))
  pub typed : typing registry schema (settled (core output.tree)) ≡ Ok output.typed
  pub names : NamesOperands (settled (spelled output.tree))
  pub wide : IsTrue (has_wide_horizontals (settled (spelled output.tree)))

-- the nodes are those of the expressions, of which what is asked holds, and the columns are made of their names and types
pub record Projects (registry : Registry) (schema : Columns) (asked : Asked) (first : ℕ) (items : List AExpr) (trees : List Expression) (nodes : List (Named ℕ)) (columns : Columns) : Type 0 where
  pub outputs : List Output
  pub trees_are : map (λ o. o.tree) outputs ≡ trees
  pub nodes_are : map output_node outputs ≡ nodes
  pub columns_are : asked_columns asked (map output_column outputs) ≡ columns
  pub each : AllByRecursion (IsOutput registry schema first items) outputs
  pub types : flat_map (λ o. type_kinds (asked_work asked) o.typed) outputs ≡ []
  pub distinct : HasDistinctNames columns

-- one more expression's node and column
pub record AddsOutput (registry : Registry) (schema : Columns) (asked : Asked) (first : ℕ) (items : List AExpr) (tree : Expression) (node : Named ℕ) (old new : Columns) : Type 0 where
  pub output : Output
  pub is : IsOutput registry schema first items output
  pub tree_is : output.tree ≡ tree
  pub node_is : output_node output ≡ node
  pub unbroken : asked_kinds asked old (name_of output.tree) output.typed ≡ []
  pub column_is : new ≡ old ++ asked_columns asked (output_column output ∷ [])

-- why an expression can't be added behind these columns: it isn't typed, or what is asked doesn't hold
pub data IsOutputRefusal (registry : Registry) (schema : Columns) (asked : Asked) (tree : Expression) (before : Columns) (error : PlanError) : Type 0 where
  no_room : error ≡ no_memory → IsOutputRefusal registry schema asked tree before error
  untyped : (kind : ErrorKind) → error ≡ at_top kind → typing registry schema (settled (core tree)) ≡ Err kind → IsOutputRefusal registry schema asked tree before error
  against : (typed : Typed) (kind : ErrorKind) → error ≡ at_top kind → typing registry schema (settled (core tree)) ≡ Ok typed → asked_kinds asked before (name_of tree) typed ≡ kind ∷ [] → IsOutputRefusal registry schema asked tree before error

-- one of the expressions can't be added behind the columns of those before it
pub record RefusesOne (registry : Registry) (schema : Columns) (asked : Asked) (trees : List Expression) (error : PlanError) : Type 0 where
  pub front : List Expression
  pub tree : Expression
  pub back : List Expression
  pub split : trees ≡ front ++ tree ∷ back
  pub before : Columns
  pub names : map (λ c. c.0) before ≡ map name_of front
  pub refusal : IsOutputRefusal registry schema asked tree before error

-- why expressions can't be projected
pub data IsProjectionRefusal (registry : Registry) (schema : Columns) (asked : Asked) (trees : List Expression) (error : PlanError) : Type 0 where
  out_of_memory : error ≡ no_memory → IsProjectionRefusal registry schema asked trees error
  refused : RefusesOne registry schema asked trees error → IsProjectionRefusal registry schema asked trees error

-- why source expressions can't be projected: they can't be expanded over the schema, or what they are expanded to can't be
-- projected
pub data IsUnprojected (registry : Registry) (schema : Columns) (twice : ErrorKind) (sources : List Source) (error : PlanError) : Type 0 where
  not_expanded : IsUnexpanded (expansions [] schema sources) error → IsUnprojected registry schema twice sources error
  not_projected : (trees : List Expression) → expansions [] schema sources ≡ Ok trees → IsProjectionRefusal registry schema (NewName twice) trees error → IsUnprojected registry schema twice sources error
