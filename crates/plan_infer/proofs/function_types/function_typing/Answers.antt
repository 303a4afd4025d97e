use Rattle.std.proofs.Common.{refl, sym, ap, ◌∙◌}
use Rattle.plan_dsl.specs.Signatures.{function_signature}
use Rattle.plan_dsl.specs.Typing.{signed}
use Rattle.plan_arena.specs.Items.{numbers}
use Rattle.plan_infer.specs.KeptTypes.{typings_at}
use Rattle.plan_infer.proofs.FunctionTypeLemmas.{by_signature}
use Rattle.plan_infer.proofs.SignedLemmas.{typings_length}
use Rattle.plan_infer.proofs.function_types.function_typing.Goals as goal

pub returns-in_ok-own-in_default : goal.returns-in_ok-own-in_default
returns-in_ok-own-in_default c =
    let says = c.in_ok-own-in_default.ensures.ok in
    let typed = typings_at c.args.types.now (numbers c.args.inputs.now) in
    let rules = by_signature c.args.function.now typed c.in_default.not-IsIn c.in_default.not-FieldByName in
    let found = ap (function_signature c.args.function.now) (typings_length c.args.types.now c.args.inputs.now) ∙ sym c.requires.found in
    record {
      ok = record { ruling = says.ruling; rules = rules ∙ ap (λ f. signed f typed) found ∙ says.rules; is = says.is; operands = says.operands };
      name = refl;
      err = tt;
    }
