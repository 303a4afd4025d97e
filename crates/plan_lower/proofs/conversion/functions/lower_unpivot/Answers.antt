use Rattle.std.proofs.Common.{[], ◌∷◌, Ok, refl, ap, ◌∙◌}
use Rattle.plan_dsl.specs.Expressions.{selector_trees}
use Rattle.plan_dsl.specs.Markers.{names_of_selectors}
use Rattle.plan_dsl.specs.Plans.{CallWork, FunctionWork}
use Rattle.plan_dsl.specs.Refusals.{then_ok}
use Rattle.plan_dsl.specs.TableFunctions.{UnpivotCall, UnpivotFunction}
use Rattle.plan_lower.specs.Lowering.{columns_at}
use Rattle.plan_lower.proofs.AddedLemmas.{refused_plainly, same_grows}
use Rattle.plan_lower.proofs.FunctionLemmas.{called_refusal, function_lowers}
use Rattle.plan_lower.proofs.conversion.functions.lower_unpivot.Goals as goal

pub returns-in_err-on : goal.returns-in_err-on
returns-in_err-on c =
    let old = c.args.lp_arena.now in
    let args = c.args.args in
    let schema = columns_at old c.args.input.schema_node.0 in
    let call = UnpivotCall args.variable_name args.value_name in
    let lists = selector_trees args.on ∷ selector_trees args.index ∷ [] in
    refused_plainly (CallWork call) lists [] c.args.input old old c.from_residual.result _ c.from_residual.ensures.1 (called_refusal schema call lists (selector_trees args.on) (λ names. then_ok (names_of_selectors schema (selector_trees args.index)) (λ others. Ok (FunctionWork (UnpivotFunction names others args.variable_name args.value_name)))) _ refl c.in_err-on.ensures.err) (same_grows old old refl)

pub returns-in_err-index : goal.returns-in_err-index
returns-in_err-index c =
    let old = c.args.lp_arena.now in
    let args = c.args.args in
    let schema = columns_at old c.args.input.schema_node.0 in
    let call = UnpivotCall args.variable_name args.value_name in
    let lists = selector_trees args.on ∷ selector_trees args.index ∷ [] in
    refused_plainly (CallWork call) lists [] c.args.input old old c.from_residual-in_err-index.result _ c.from_residual-in_err-index.ensures.1 (called_refusal schema call lists (selector_trees args.index) (λ others. Ok (FunctionWork (UnpivotFunction c.in_ok-on.on.items.items others args.variable_name args.value_name))) _ (ap (λ r. then_ok r (λ names. then_ok (names_of_selectors schema (selector_trees args.index)) (λ others. Ok (FunctionWork (UnpivotFunction names others args.variable_name args.value_name))))) c.in_ok-on.ensures.ok) c.in_err-index.ensures.err) (same_grows old old refl)

pub returns : goal.returns
returns c =
    let args = c.args.args in
    let schema = columns_at c.args.lp_arena.now c.args.input.schema_node.0 in
    let resolved = ap (λ r. then_ok r (λ names. then_ok (names_of_selectors schema (selector_trees args.index)) (λ others. Ok (FunctionWork (UnpivotFunction names others args.variable_name args.value_name))))) c.in_ok-on.ensures.ok ∙ ap (λ r. then_ok r (λ others. Ok (FunctionWork (UnpivotFunction c.in_ok-on.on.items.items others args.variable_name args.value_name)))) c.in_ok-index.ensures.ok in
    function_lowers _ (CallWork (UnpivotCall args.variable_name args.value_name)) (selector_trees args.on ∷ selector_trees args.index ∷ []) c.args.input _ _ c.add_function.result refl resolved c.add_function.ensures
