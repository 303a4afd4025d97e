use Rattle.std.proofs.Common.{sym, ◌∙◌}
use Rattle.plan_types.specs.Errors.{broken}
use Rattle.plan_types.specs.declared.error.ErrorKind.TheVariants.{InvalidOperation}
use Rattle.plan_dsl.specs.Expressions.{tree_of}
use Rattle.plan_dsl.proofs.ExpansionLemmas.{plain_found, others_are_refused}
use Rattle.plan_expand.proofs.expr_expansion.as_plain.Goals as goal

pub returns-then-is_plain-clause-ok : goal.returns-then-is_plain-clause-ok
returns-then-is_plain-clause-ok c = plain_found (tree_of c.args.expr) (sym c.is_plain.ensures ∙ c.if-is_plain.true)

pub returns-clause-err : goal.returns-clause-err
returns-clause-err c = broken InvalidOperation c.at_top.ensures (others_are_refused (tree_of c.args.expr) (sym c.is_plain.ensures ∙ c.if-is_plain.false))
