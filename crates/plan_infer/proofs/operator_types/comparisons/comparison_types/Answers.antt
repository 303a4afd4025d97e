use Rattle.std.proofs.Common.{refl, sym, ◌∙◌}
use Rattle.plan_types.specs.Types.{ty}
use Rattle.plan_types.specs.Errors.{broken}
use Rattle.plan_types.specs.Supertypes.{supertype}
use Rattle.plan_types.specs.declared.error.ErrorKind.TheVariants.{InvalidOperation}
use Rattle.plan_types.proofs.ResultLemmas.{passed_on}
use Rattle.plan_infer.proofs.OperandTypeLemmas.{no_common, refused_first, refused_second}
use Rattle.plan_infer.proofs.operator_types.comparisons.comparison_types.Goals as goal

pub returns-then-is_text_apart-clause-err : goal.returns-then-is_text_apart-clause-err
returns-then-is_text_apart-clause-err c =
    refused_first _ _ _ _ (sym c.is_text_apart.ensures ∙ c.if-is_text_apart.true) (broken InvalidOperation c.at_top.ensures refl)

pub returns-in_err-common-clause-err : goal.returns-in_err-common-clause-err
returns-in_err-common-clause-err c =
    passed_on c.from_residual.result c.in_err-common.field-0.0 _ c.from_residual.ensures.1 (refused_second _ _ _ _ (sym c.is_text_apart.ensures ∙ c.if-is_text_apart.false) (no_common (supertype (ty c.args.left.now) (ty c.args.right.now)) _ _ c.in_err-common.ensures.err))
