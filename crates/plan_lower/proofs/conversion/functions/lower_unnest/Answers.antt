use Rattle.std.proofs.Common.{[], ◌∷◌, Ok, refl, ap}
use Rattle.plan_dsl.specs.Expressions.{selector_trees}
use Rattle.plan_dsl.specs.Plans.{CallWork, FunctionWork}
use Rattle.plan_dsl.specs.Refusals.{then_ok}
use Rattle.plan_dsl.specs.TableFunctions.{UnnestCall, UnnestFunction}
use Rattle.plan_dsl.specs.declared.function.FunctionIR.TheVariants.{Unnest}
use Rattle.plan_lower.specs.Lowering.{columns_at}
use Rattle.plan_lower.proofs.AddedLemmas.{refused_plainly, same_grows}
use Rattle.plan_lower.proofs.FunctionLemmas.{called_refusal, function_lowers}
use Rattle.plan_lower.proofs.conversion.functions.lower_unnest.Goals as goal

pub returns-in_err-columns : goal.returns-in_err-columns
returns-in_err-columns c =
    let old = c.args.lp_arena.now in
    let lists = selector_trees c.args.columns ∷ [] in
    refused_plainly (CallWork UnnestCall) lists [] c.args.input old old c.from_residual.result _ c.from_residual.ensures.1 (called_refusal (columns_at old c.args.input.schema_node.0) UnnestCall lists (selector_trees c.args.columns) (λ names. Ok (FunctionWork (UnnestFunction names))) _ refl c.in_err-columns.ensures.err) (same_grows old old refl)

pub returns : goal.returns
returns c =
    function_lowers (Unnest c.in_ok-columns.columns) (CallWork UnnestCall) (selector_trees c.args.columns ∷ []) c.args.input _ _ c.add_function.result refl (ap (λ r. then_ok r (λ names. Ok (FunctionWork (UnnestFunction names)))) c.in_ok-columns.ensures.ok) c.add_function.ensures
