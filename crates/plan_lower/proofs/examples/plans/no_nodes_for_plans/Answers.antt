use Rattle.std.proofs.Common.{◌≡◌, List, [], ◌∷◌, map, Ok, Err, subst, ◌∙◌}
use Rattle.std.specs.List.{AllByRecursion}
use Rattle.plan_types.specs.Types.{Truth}
use Rattle.plan_types.specs.declared.error.ErrorKind.TheVariants.{ColumnNotFound}
use Rattle.plan_dsl.specs.Aliases.{core}
use Rattle.plan_dsl.specs.Ops.{Expression}
use Rattle.plan_dsl.specs.Plans.{SelectWork}
use Rattle.plan_dsl.specs.Resolving.{expanded_lists}
use Rattle.plan_dsl.specs.Sources.{written}
use Rattle.plan_dsl.specs.Literals.{settled}
use Rattle.plan_dsl.specs.Typing.{typing}
use Rattle.plan_lower.specs.Outputs.{Lowered, IsLowered}
use Rattle.plan_infer.specs.Samples.{one_column, c}
use Rattle.plan_lower.proofs.examples.plans.no_nodes_for_plans.Goals as goal

first_tree : (output : Lowered) (outputs : List Lowered) → map (λ o. o.tree) (output ∷ outputs) ≡ c ∷ [] → output.tree ≡ c
first_tree output outputs e = cc

no_outputs : (outputs : List Lowered) → map (λ o. o.tree) outputs ≡ c ∷ [] → AllByRecursion (IsLowered [] (one_column Truth)) outputs → ⊥
no_outputs [] trees each = cc
no_outputs (output ∷ outputs) trees each =
    let typed : Err ColumnNotFound ≡ Ok output.typed = subst (λ t. typing [] (one_column Truth) (settled (core t)) ≡ Ok output.typed) (first_tree output outputs trees) each.0.typed in
    cc

first_list : (outputs : List Lowered) (lists : List (List Lowered)) → map (map (λ o. o.tree)) (outputs ∷ lists) ≡ (c ∷ []) ∷ [] → map (λ o. o.tree) outputs ≡ c ∷ []
first_list outputs lists e = cc

no_lists : (lists : List (List Lowered)) → map (map (λ o. o.tree)) lists ≡ (c ∷ []) ∷ [] → AllByRecursion (AllByRecursion (IsLowered [] (one_column Truth))) lists → ⊥
no_lists [] trees each = cc
no_lists (outputs ∷ lists) trees each = no_outputs outputs (first_list outputs lists trees) each.0

only_c : (trees : List (List Expression)) → expanded_lists (one_column Truth) SelectWork ((written c ∷ []) ∷ []) ≡ Ok trees → trees ≡ (c ∷ []) ∷ []
only_c trees e = cc

pub returns-clause-select_of_no_column : goal.returns-clause-select_of_no_column
returns-clause-select_of_no_column k = λ plans is. no_lists is.outputs (is.trees_are ∙ only_c is.trees is.expanded) is.unbroken.each
