use Rattle.std.proofs.Common.{◌≡◌, List, [], ◌∷◌, ◌++◌, map, Ok, refl, subst, sym}
use Rattle.std.specs.List.{AllByRecursion, flat_map}
use Rattle.plan_types.specs.declared.error.ErrorKind.TheVariants.{InvalidOperation}
use Rattle.plan_dsl.specs.Aliases.{core}
use Rattle.plan_dsl.specs.Literals.{settled}
use Rattle.plan_dsl.specs.PlanRules.{type_kinds}
use Rattle.plan_dsl.specs.Plans.{FilterWork}
use Rattle.plan_dsl.specs.Typing.{typing}
use Rattle.plan_arena.specs.declared.aexpr.AExpr.{AExpr}
use Rattle.plan_arena.specs.Items.{DenoteNamed}
use Rattle.plan_lower.specs.Outputs.{IsLowered, Lowered, lowered_named}
use Rattle.plan_infer.specs.Samples.{int8, of_type, one_column, a, a_items}
use Rattle.plan_lower.specs.Samples.{as_it_is}
use Rattle.plan_lower.proofs.examples.outputs.lowered_selects.Goals as goal

lowered : IsLowered [] (one_column int8) (as_it_is a int8)
lowered = record { typed = refl; same = record { typing = refl; name = refl; meaning = λ rows. refl }; strict = refl; casts = refl; names = (tt, tt); wide = refl }

pub returns-clause-nodes : goal.returns-clause-nodes
returns-clause-nodes c = record { outputs = as_it_is a int8 ∷ []; trees_are = refl; each = (lowered, tt); types = refl; distinct = (refl, tt); denotes = (refl, ([], refl, tt), tt); columns_are = refl }

pub returns-clause-in_an_order : goal.returns-clause-in_an_order
returns-clause-in_an_order c = record { outputs = as_it_is a int8 ∷ []; trees_are = refl; each = (lowered, tt); types = refl; distinct = tt; denotes = (refl, ([], refl, tt), tt); columns_are = refl }

no_outputs : (items : List AExpr) (outputs : List Lowered) → map (λ o. o.tree) outputs ≡ a ∷ [] → DenoteNamed items [] (map lowered_named outputs) → ⊥
no_outputs items [] trees d = cc
no_outputs items (first ∷ rest) trees d = d

pub returns-clause-no_nodes : goal.returns-clause-no_nodes
returns-clause-no_nodes c = λ has. no_outputs a_items has.outputs has.trees_are has.denotes

no_truth : (outputs : List Lowered) → map (λ o. o.tree) outputs ≡ a ∷ [] → AllByRecursion (IsLowered [] (one_column int8)) outputs → flat_map (λ o. type_kinds FilterWork o.typed) outputs ≡ [] → ⊥
no_truth [] trees each types = cc
no_truth (o ∷ os) trees each types =
    let same : o.tree ≡ a = cc in
    let typed : Ok (of_type int8) ≡ Ok o.typed = subst (λ t. typing [] (one_column int8) (settled (core t)) ≡ Ok o.typed) same each.0.typed in
    let own : of_type int8 ≡ o.typed = cc in
    let broken : InvalidOperation ∷ flat_map (λ (o : Lowered). type_kinds FilterWork o.typed) os ≡ [] = subst (λ t. type_kinds FilterWork t ++ flat_map (λ (o : Lowered). type_kinds FilterWork o.typed) os ≡ []) (sym own) types in
    cc

pub returns-clause-no_truth : goal.returns-clause-no_truth
returns-clause-no_truth c = λ has. no_truth has.outputs has.trees_are has.each has.types
