use Rattle.std.proofs.Common.{sym, ap, ◌∙◌}
use Rattle.plan_types.specs.Schemas.{columns}
use Rattle.plan_dsl.specs.Typing.{column_type}
use Rattle.plan_infer.proofs.TypingLemmas.{column_unknown}
use Rattle.plan_infer.proofs.typing.column_dtype.Goals as goal

pub returns-in_default-clause-err : goal.returns-in_default-clause-err
returns-in_default-clause-err c = ap column_type (sym c.in_default.ensures)

pub returns-then-not-is_known-clause-err : goal.returns-then-not-is_known-clause-err
returns-then-not-is_known-clause-err c =
    column_unknown (columns c.args.schema.now) c.args.name.now _ (sym c.in-Some.ensures) (sym c.is_known.ensures ∙ c.if-not-is_known.true)

pub returns-clause-ok : goal.returns-clause-ok
returns-clause-ok c = (sym c.in-Some.ensures, sym c.is_known.ensures ∙ c.if-not-is_known.false)
