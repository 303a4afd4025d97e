use Rattle.plan_types.proofs.ResultLemmas.{passed_on}
use Rattle.plan_dsl.specs.Expansion.{under_alias}
use Rattle.plan_dsl.specs.Expressions.{renaming_of, tree_of}
use Rattle.plan_expand.proofs.ExpansionLemmas.{plain_refused, alias_made, alias_refused}
use Rattle.plan_expand.proofs.expr_expansion.renamed.Goals as goal

pub returns-in_err-check_plain-clause-err : goal.returns-in_err-check_plain-clause-err
returns-in_err-check_plain-clause-err c =
    passed_on c.from_residual.result c.in_err-check_plain.field-0.0 _ c.from_residual.ensures.1 (plain_refused (tree_of c.args.expr.value) _ (under_alias (renaming_of c.args.function)) (rw c.deref.ensures at c.in_err-check_plain.ensures.err))

pub returns-in_err-name-clause-err : goal.returns-in_err-name-clause-err
returns-in_err-name-clause-err c =
    let is = rw c.deref.ensures at c.in_ok-check_plain.ensures.ok in
    let refused = rw c.deref-2.ensures at c.in_err-name.ensures.err in
    passed_on c.from_residual-in_err-name.result c.in_err-name.field-0.0 _ c.from_residual-in_err-name.ensures.1 (alias_refused (tree_of c.args.expr.value) (renaming_of c.args.function) _ is refused)

pub returns-clause-ok : goal.returns-clause-ok
returns-clause-ok c =
    let is = rw c.deref.ensures at c.in_ok-check_plain.ensures.ok in
    let given = rw c.deref-2.ensures at c.in_ok-name.ensures.ok in
    alias_made (tree_of c.args.expr.value) (renaming_of c.args.function) c.in_ok-name.name is given
