use Rattle.std.proofs.Common.{sym, ◌∙◌}
use Rattle.plan_dsl.specs.Literals.{literal_type, literal_value}
use Rattle.plan_infer.proofs.TypingLemmas.{no_literal}
use Rattle.plan_infer.proofs.typing.literal_dtype.Goals as goal

pub returns-then-not-is_in_range-clause-err : goal.returns-then-not-is_in_range-clause-err
returns-then-not-is_in_range-clause-err c =
    let value = c.args.value.now in
    no_literal (literal_type value) (literal_value value) _ c.at_top.ensures (sym c.is_in_range.ensures ∙ c.if-not-is_in_range.true)
