use Rattle.std.proofs.Common.{◌∷◌, [], arith, sym, ap, ◌∙◌, subst}
use Rattle.plan_types.proofs.ResultLemmas.{passed_on}
use Rattle.plan_types.specs.Errors.{IsRefusal, broken}
use Rattle.plan_types.specs.declared.error.ErrorKind.TheVariants.{ComputeError}
use Rattle.plan_dsl.specs.declared.function_expr.FunctionExpr.TheVariants.{IsIn}
use Rattle.plan_dsl.specs.Typing.{function_rule, ruled_as, some_many}
use Rattle.plan_arena.specs.Items.{numbers}
use Rattle.plan_infer.specs.KeptTypes.{IsKept, Says, typed_of, typings_at}
use Rattle.plan_infer.proofs.TableLemmas.{all_at}
use Rattle.plan_infer.proofs.TypingLemmas.{refused_so}
use Rattle.plan_infer.proofs.FunctionTypeLemmas.{in_two, not_two}
use Rattle.plan_infer.proofs.SignedLemmas.{two_typings, typings_length}
use Rattle.plan_infer.proofs.function_types.is_in_typing.Goals as goal

pub returns-then-inputs-ne2-clause-err : goal.returns-then-inputs-ne2-clause-err
returns-then-inputs-ne2-clause-err c =
    broken ComputeError c.at_top.ensures (not_two (typings_at c.args.types.now (numbers c.args.inputs.now)) (λ two. c.if-inputs-ne2.true (sym (typings_length c.args.types.now c.args.inputs.now) ∙ two)))

pub get-value-requires : goal.get-value-requires
get-value-requires c = all_at (IsKept c.args.types.now) c.args.inputs.now 0 (record { 0 = 0 }) c.requires.inputs (omega (arith, c.if-inputs-ne2.false))

pub get-among-requires : goal.get-among-requires
get-among-requires c = all_at (IsKept c.args.types.now) c.args.inputs.now 1 (record { 0 = 0 }) c.requires.inputs (omega (arith, c.if-inputs-ne2.false))

pub returns-in_err-taken-clause-err : goal.returns-in_err-taken-clause-err
returns-in_err-taken-clause-err c =
    let error = c.in_err-taken.field-0.0 in
    let value = typed_of c.get-value.result.now in
    let among = typed_of c.get-among.result.now in
    let typed = two_typings c.args.types.now c.args.inputs.now (record { 0 = 0 }) c.get-value.result.now c.get-among.result.now c.if-inputs-ne2.false c.get-value.ensures c.get-among.ensures in
    passed_on c.from_residual.result error _ c.from_residual.ensures.1 (subst (λ ts. IsRefusal (function_rule IsIn ts) error) (sym typed) (refused_so _ _ error (λ kind e. ap (λ f. ruled_as f (some_many (value ∷ among ∷ []))) e) c.in_err-taken.ensures.err))

pub returns-clause-ok : goal.returns-clause-ok
returns-clause-ok c =
    let all = typings_at c.args.types.now (numbers c.args.inputs.now) in
    let typed = two_typings c.args.types.now c.args.inputs.now (record { 0 = 0 }) c.get-value.result.now c.get-among.result.now c.if-inputs-ne2.false c.get-value.ensures c.get-among.ensures in
    subst (λ found. Says found all c.in_ok-own.own) (sym (in_two all _ _ _ typed c.in_ok-taken.ensures.ok)) c.in_ok-own.ensures.ok
