use Rattle.std.proofs.Common.{ap, ◌∙◌, sym, Ok}
use Rattle.plan_types.proofs.ResultLemmas.{passed_on}
use Rattle.plan_dsl.specs.Expansion.{name_given, under_alias}
use Rattle.plan_dsl.specs.Expressions.{tree_of}
use Rattle.plan_dsl.specs.Sources.{KeepRoot}
use Rattle.plan_expand.proofs.ExpansionLemmas.{plain_refused, alias_made, alias_refused, root_refused}
use Rattle.plan_expand.proofs.expr_expansion.under_root.Goals as goal

pub returns-in_err-check_plain-clause-err : goal.returns-in_err-check_plain-clause-err
returns-in_err-check_plain-clause-err c =
    passed_on c.from_residual.result c.in_err-check_plain.field-0.0 _ c.from_residual.ensures.1 (plain_refused (tree_of c.args.expr.value) _ (under_alias KeepRoot) (rw c.deref.ensures at c.in_err-check_plain.ensures.err))

pub returns-in_err-root-clause-err : goal.returns-in_err-root-clause-err
returns-in_err-root-clause-err c =
    let is = rw c.deref.ensures at c.in_ok-check_plain.ensures.ok in
    let refused = rw c.deref-2.ensures at c.in_err-root.ensures.err in
    passed_on c.from_residual-in_err-root.result c.in_err-root.field-0.0 _ c.from_residual-in_err-root.ensures.1 (alias_refused (tree_of c.args.expr.value) KeepRoot _ is (root_refused _ _ refused))

pub returns-clause-ok : goal.returns-clause-ok
returns-clause-ok c =
    let is = rw c.deref.ensures at c.in_ok-check_plain.ensures.ok in
    let found = rw c.deref-2.ensures at c.in_ok-root.ensures.ok in
    alias_made (tree_of c.args.expr.value) KeepRoot c.in_ok-name.name is (ap (name_given KeepRoot) found ∙ ap Ok (sym c.in_ok-name.ensures.ok))
