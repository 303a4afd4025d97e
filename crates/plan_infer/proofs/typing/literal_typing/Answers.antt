use Rattle.std.proofs.Common.{refl}
use Rattle.plan_types.proofs.ResultLemmas.{passed_on}
use Rattle.plan_dsl.specs.Literals.{literal_type, literal_value}
use Rattle.plan_infer.proofs.TypingLemmas.{literal_refused, literal_ruled}
use Rattle.plan_infer.proofs.typing.literal_typing.Goals as goal

pub returns-in_err-dtype-clause-err : goal.returns-in_err-dtype-clause-err
returns-in_err-dtype-clause-err c =
    passed_on c.from_residual.result c.in_err-dtype.field-0.0 _ c.from_residual.ensures.1 (λ registry schema. literal_refused registry schema (literal_type c.args.value.now) (literal_value c.args.value.now) _ c.in_err-dtype.ensures.err)

pub returns-clause-ok : goal.returns-clause-ok
returns-clause-ok c = λ registry schema.
    literal_ruled registry schema (literal_type c.args.value.now) (literal_value c.args.value.now) _ c.in_ok-dtype.ensures.ok refl c.none.ensures
