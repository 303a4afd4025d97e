use Rattle.std.proofs.Common.{◌∷◌, [], arith, inr, map, refl, sym, ap, ◌∙◌, subst}
use Rattle.plan_types.proofs.ResultLemmas.{passed_on}
use Rattle.plan_types.specs.Errors.{IsRefusal, broken}
use Rattle.plan_types.specs.Types.{ty}
use Rattle.plan_types.specs.declared.error.ErrorKind.TheVariants.{ComputeError}
use Rattle.plan_dsl.specs.declared.function_expr.FunctionExpr.TheVariants.{FieldByName}
use Rattle.plan_dsl.specs.Typing.{function_rule, ruled_as}
use Rattle.plan_dsl.proofs.TypingLemmas.{ruling_of}
use Rattle.plan_arena.specs.Items.{numbers}
use Rattle.plan_infer.specs.declared.type_table.Inferred.{Inferred}
use Rattle.plan_infer.specs.KeptTypes.{IsKept, Says, typings_at}
use Rattle.plan_infer.proofs.TableLemmas.{all_at}
use Rattle.plan_infer.proofs.TypingLemmas.{refused_so}
use Rattle.plan_infer.proofs.FunctionTypeLemmas.{not_one}
use Rattle.plan_infer.proofs.SignedLemmas.{one_typing, typings_length}
use Rattle.plan_infer.proofs.function_types.field_typing.Goals as goal

pub returns-then-inputs-ne1-clause-err : goal.returns-then-inputs-ne1-clause-err
returns-then-inputs-ne1-clause-err c =
    broken ComputeError c.at_top.ensures (not_one c.args.name.now (typings_at c.args.types.now (numbers c.args.inputs.now)) (λ one. c.if-inputs-ne1.true (sym (typings_length c.args.types.now c.args.inputs.now) ∙ one)))

pub get-from-requires : goal.get-from-requires
get-from-requires c = all_at (IsKept c.args.types.now) c.args.inputs.now 0 (record { 0 = 0 }) c.requires.inputs (omega (arith, c.if-inputs-ne1.false))

pub returns-in_err-dtype-clause-err : goal.returns-in_err-dtype-clause-err
returns-in_err-dtype-clause-err c =
    let error = c.in_err-dtype.field-0.0 in
    let typed = one_typing c.args.types.now c.args.inputs.now (record { 0 = 0 }) c.get-from.result.now c.if-inputs-ne1.false c.get-from.ensures in
    passed_on c.from_residual.result error _ c.from_residual.ensures.1 (subst (λ ts. IsRefusal (function_rule (FieldByName c.args.name.now) ts) error) (sym typed) (refused_so _ _ error (λ kind e. ap (λ f. ruled_as f c.get-from.result.now.many) e) c.in_err-dtype.ensures.err))

pub returns-clause-ok : goal.returns-clause-ok
returns-clause-ok c =
    let from = c.get-from.result.now in
    let own : Inferred = record { name = c.args.node; dtype = c.in_ok-dtype.dtype; many = from.many; operands = c.none.result } in
    let typed = one_typing c.args.types.now c.args.inputs.now (record { 0 = 0 }) from c.if-inputs-ne1.false c.get-from.ensures in
    subst (λ ts. Says (function_rule (FieldByName c.args.name.now) ts) ts own) (sym typed) (record {
      ruling = ruling_of (record { operands = ty from.dtype ∷ []; type = ty c.in_ok-dtype.dtype }) from.many;
      rules = ap (λ f. ruled_as f from.many) c.in_ok-dtype.ensures.ok;
      is = refl;
      operands = inr (ap (map ty) c.none.ensures, refl);
    })
