use Rattle.std.proofs.Common.{◌≡◌, ◌==◌, [], ◌∷◌, length, Ok, refl, sym, ap, ◌∙◌, arith}
use Rattle.std.specs.Vec.{vec_len}
use Rattle.std.proofs.lemmas.Bool.{eqb-true, false≢true}
use Rattle.plan_dsl.specs.Expressions.{selector_trees}
use Rattle.plan_dsl.specs.Plans.{CallWork, FunctionWork}
use Rattle.plan_dsl.specs.Refusals.{then_ok}
use Rattle.plan_dsl.specs.TableCalls.{explode_work}
use Rattle.plan_dsl.specs.TableFunctions.{ExplodeCall, ExplodeFunction}
use Rattle.plan_dsl.specs.declared.function.FunctionIR.TheVariants.{Explode}
use Rattle.plan_lower.specs.Lowering.{columns_at}
use Rattle.plan_lower.proofs.AddedLemmas.{refused_plainly, same_grows}
use Rattle.plan_lower.proofs.FunctionLemmas.{asked_exploded, called_refusal, function_lowers, none_exploded, same_lowers, some_exploded}
use Rattle.plan_lower.proofs.conversion.functions.lower_explode.Goals as goal
use Rattle.plan_lower.proofs.conversion.functions.lower_explode.Goals.{else-allow_empty-via-then-allow_empty+else-is_empty, else-allow_empty-via-else-allow_empty}

pub returns-in_err-columns : goal.returns-in_err-columns
returns-in_err-columns c =
    let old = c.args.lp_arena.now in
    let call = ExplodeCall c.args.allow_empty in
    let lists = selector_trees c.args.columns ∷ [] in
    refused_plainly (CallWork call) lists [] c.args.input old old c.from_residual.result _ c.from_residual.ensures.1 (called_refusal (columns_at old c.args.input.schema_node.0) call lists (selector_trees c.args.columns) (λ names. Ok (explode_work c.args.allow_empty names)) _ refl c.in_err-columns.ensures.err) (same_grows old old refl)

pub returns-then-is_empty : goal.returns-then-is_empty
returns-then-is_empty c =
    let names = c.in_ok-columns.columns.items.items in
    let empty = eqb-true (vec_len c.in_ok-columns.columns.items) 0 (sym c.is_empty.ensures ∙ c.if-is_empty.true) in
    let work = none_exploded c.args.allow_empty names c.if-allow_empty.true (omega (arith, empty)) in
    same_lowers (CallWork (ExplodeCall c.args.allow_empty)) (selector_trees c.args.columns ∷ []) c.args.input c.args.lp_arena.now refl (ap (λ r. then_ok r (λ names. Ok (explode_work c.args.allow_empty names))) c.in_ok-columns.ensures.ok ∙ ap Ok work) c.requires

pub returns : goal.returns
returns c =
    let names = c.in_ok-columns.columns.items.items in
    let count : vec_len c.in_ok-columns.columns.items ≡ length names = omega arith in
    let work : explode_work c.args.allow_empty names ≡ FunctionWork (ExplodeFunction names) = elim c.else-allow_empty.branch [
      | else-allow_empty-via-then-allow_empty+else-is_empty w ↦ some_exploded names (λ e. false≢true (sym (sym w.is_empty.ensures ∙ w.if-is_empty.false) ∙ ap (λ n. n == 0) (count ∙ e))) c.args.allow_empty
      | else-allow_empty-via-else-allow_empty w ↦ asked_exploded c.args.allow_empty names w.if-allow_empty.false
    ] in
    function_lowers (Explode c.in_ok-columns.columns) (CallWork (ExplodeCall c.args.allow_empty)) (selector_trees c.args.columns ∷ []) c.args.input _ _ c.add_function.result refl (ap (λ r. then_ok r (λ names. Ok (explode_work c.args.allow_empty names))) c.in_ok-columns.ensures.ok ∙ ap Ok work) c.add_function.ensures
