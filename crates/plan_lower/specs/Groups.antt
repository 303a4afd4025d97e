-- The keys and aggregates of a group-by, lowered together.
use Rattle.std.specs.Prelude.{◌≡◌, ℕ, List, [], ◌∷◌, ◌++◌, map, true, Ok}
use Rattle.std.specs.List.{AllByRecursion}
use Rattle.plan_types.specs.Types.{Ty}
use Rattle.plan_types.specs.Schemas.{Name, Columns, HasDistinctNames, repeats}
use Rattle.plan_types.specs.Errors.{no_memory, at_top}
use Rattle.plan_types.specs.declared.error.ErrorKind.TheVariants.{ComputeError, Duplicate}
use Rattle.plan_types.specs.declared.error.PlanError.{PlanError}
use Rattle.plan_dsl.specs.Registry.{Registry}
use Rattle.plan_dsl.specs.Ops.{Expression}
use Rattle.plan_dsl.specs.Sources.{Source, written}
use Rattle.plan_dsl.specs.Expansion.{expansions, key_names}
use Rattle.plan_dsl.specs.Names.{name_of}
use Rattle.plan_dsl.specs.Plans.{Named}
use Rattle.plan_dsl.specs.PlanRules.{type_in_groups}
use Rattle.plan_dsl.specs.Typing.{Typed}
use Rattle.plan_arena.specs.declared.aexpr.AExpr.{AExpr}
use Rattle.plan_arena.specs.Items.{DenoteNamed}
use Rattle.plan_expand.specs.Refusals.{IsUnexpanded}
use Rattle.plan_lower.specs.Outputs.{Lowered, lowered_named, lowered_column, IsLowered}
use Rattle.plan_lower.specs.Projection.{IsProjectionRefusal}
use Rattle.plan_lower.specs.declared.conversion.asked.Asked.TheVariants.{NewName}

-- an aggregate's column in groups
abbrev pub group_column : Lowered → Name × Ty
group_column output = (name_of output.tree, type_in_groups output.typed)

abbrev pub group_columns_of : List Lowered → List Lowered → Columns
group_columns_of keys aggs = map lowered_column keys ++ map group_column aggs

-- nodes that stand for aggregates, whose columns in groups stand behind those of the keys
pub record HasAggregates (registry : Registry) (schema : Columns) (items : List AExpr) (trees : List Expression) (nodes : List (Named ℕ)) (keys columns : Columns) : Type 0 where
  pub outputs : List Lowered
  pub trees_are : map (λ o. o.tree) outputs ≡ trees
  pub each : AllByRecursion (IsLowered registry schema) outputs
  pub denotes : DenoteNamed items nodes (map lowered_named outputs)
  pub columns_are : columns ≡ keys ++ map group_column outputs

-- keys and aggregates are those of the expressions, under distinct names, and there is a key
pub record GroupsTo (registry : Registry) (schema : Columns) (keys aggs : List Expression) (outputs others : List Lowered) : Type 0 where
  pub keys_are : map (λ o. o.tree) outputs ≡ keys
  pub aggs_are : map (λ o. o.tree) others ≡ aggs
  pub each_key : AllByRecursion (IsLowered registry schema) outputs
  pub each_agg : AllByRecursion (IsLowered registry schema) others
  pub distinct : HasDistinctNames (group_columns_of outputs others)
  pub some : ¬ (outputs ≡ [])

-- nodes that stand for keys and aggregates, and the schema of their columns
pub record HasGroups (registry : Registry) (schema : Columns) (items : List AExpr) (keys aggs : List Expression) (nodes others : List (Named ℕ)) (columns : Columns) : Type 0 where
  pub key_outputs : List Lowered
  pub agg_outputs : List Lowered
  pub groups : GroupsTo registry schema keys aggs key_outputs agg_outputs
  pub keys_denote : DenoteNamed items nodes (map lowered_named key_outputs)
  pub aggs_denote : DenoteNamed items others (map lowered_named agg_outputs)
  pub columns_are : columns ≡ group_columns_of key_outputs agg_outputs

-- source expressions are expanded over the schema, and the nodes stand for what they are expanded to: what markers of
-- aggregates stand for leaves out the keys that are plain columns
pub record HasExpandedGroups (registry : Registry) (schema : Columns) (items : List AExpr) (keys aggs : List Source) (nodes others : List (Named ℕ)) (columns : Columns) : Type 0 where
  pub trees : List Expression
  pub expanded : expansions [] schema keys ≡ Ok trees
  pub aggregates : List Expression
  pub also : expansions (key_names (map written trees)) schema aggs ≡ Ok aggregates
  pub lowered : HasGroups registry schema items trees aggregates nodes others columns

-- why aggregates can't be lowered behind keys of these names: one of them can't be projected, or a name comes twice
pub data IsAggregateRefusal (registry : Registry) (schema : Columns) (keys : List Name) (aggs : List Expression) (error : PlanError) : Type 0 where
  not_typed : IsProjectionRefusal registry schema (NewName Duplicate) aggs error → IsAggregateRefusal registry schema keys aggs error
  twice : error ≡ at_top Duplicate → repeats (keys ++ map name_of aggs) ≡ true → IsAggregateRefusal registry schema keys aggs error

-- why keys and aggregates can't be lowered
pub data IsGroupRefusal (registry : Registry) (schema : Columns) (keys aggs : List Expression) (error : PlanError) : Type 0 where
  short : error ≡ no_memory → IsGroupRefusal registry schema keys aggs error
  without_keys : error ≡ at_top ComputeError → keys ≡ [] → IsGroupRefusal registry schema keys aggs error
  of_keys : IsProjectionRefusal registry schema (NewName Duplicate) keys error → IsGroupRefusal registry schema keys aggs error
  of_aggregates : IsAggregateRefusal registry schema (map name_of keys) aggs error → IsGroupRefusal registry schema keys aggs error

-- why source expressions can't be lowered as keys and aggregates: some can't be expanded over the schema, or what they are
-- expanded to can't be lowered so
pub data IsUngrouped (registry : Registry) (schema : Columns) (keys aggs : List Source) (error : PlanError) : Type 0 where
  keys_unexpanded : IsUnexpanded (expansions [] schema keys) error → IsUngrouped registry schema keys aggs error
  aggregates_unexpanded : (trees : List Expression) → expansions [] schema keys ≡ Ok trees → IsUnexpanded (expansions (key_names (map written trees)) schema aggs) error → IsUngrouped registry schema keys aggs error
  not_grouped : (trees others : List Expression) → expansions [] schema keys ≡ Ok trees → expansions (key_names (map written trees)) schema aggs ≡ Ok others → IsGroupRefusal registry schema trees others error → IsUngrouped registry schema keys aggs error

-- aggregates' nodes with their names, and their typings, as columns in groups
abbrev pub named_in_groups : List (Named ℕ) → List Typed → Columns
named_in_groups [] typed = []
named_in_groups (n ∷ ns) [] = []
named_in_groups (n ∷ ns) (t ∷ ts) = (n.label.name, type_in_groups t) ∷ named_in_groups ns ts
