use Rattle.std.proofs.Common.{refl, sym, ◌∙◌}
use Rattle.plan_types.specs.Types.{ty}
use Rattle.plan_types.specs.Supertypes.{supertype}
use Rattle.plan_types.specs.Errors.{broken}
use Rattle.plan_types.specs.declared.error.ErrorKind.TheVariants.{InvalidOperation}
use Rattle.plan_types.proofs.ResultLemmas.{passed_on}
use Rattle.plan_infer.proofs.OperandTypeLemmas.{no_common, refused_first, refused_second}
use Rattle.plan_infer.proofs.operator_types.bits.bit_types.Goals as goal

pub returns-then-not-have_bits-clause-err : goal.returns-then-not-have_bits-clause-err
returns-then-not-have_bits-clause-err c =
    refused_second _ _ _ _ (sym c.have_bits.ensures ∙ c.if-not-have_bits.true) (broken InvalidOperation c.at_top.ensures refl)

pub returns-in_err-common-clause-err : goal.returns-in_err-common-clause-err
returns-in_err-common-clause-err c =
    passed_on c.from_residual.result c.in_err-common.field-0.0 _ c.from_residual.ensures.1 (refused_first _ _ _ _ (sym c.have_bits.ensures ∙ c.if-not-have_bits.false) (no_common (supertype (ty c.args.left.now) (ty c.args.right.now)) _ _ c.in_err-common.ensures.err))
