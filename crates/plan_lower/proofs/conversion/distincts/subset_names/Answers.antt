use Rattle.std.proofs.Common.{sym, ap, ◌∙◌}
use Rattle.plan_types.specs.Schemas.{columns}
use Rattle.plan_types.proofs.ResultLemmas.{passed_on}
use Rattle.plan_dsl.specs.Drops.{have_names}
use Rattle.plan_dsl.specs.Expressions.{selector_trees}
use Rattle.plan_lower.proofs.DistinctLemmas.{by_names, lacking, unmade}
use Rattle.plan_lower.proofs.conversion.distincts.subset_names.Goals as goal

pub returns-clause-ok : goal.returns-clause-ok
returns-clause-ok c = λ keep.
    by_names (columns c.args.schema.now) (selector_trees c.args.selectors) keep _ c.in_ok-items.ensures.ok (sym (ap (have_names (columns c.args.schema.now)) c.as_slice.ensures.value) ∙ sym c.has_each.ensures ∙ c.if-not-has_each.false)

pub returns-in_err-items-clause-err : goal.returns-in_err-items-clause-err
returns-in_err-items-clause-err c =
    passed_on c.from_residual.result c.in_err-items.field-0.0 _ c.from_residual.ensures.1 (λ keep. unmade (columns c.args.schema.now) (selector_trees c.args.selectors) keep _ c.in_err-items.ensures.err)

pub returns-then-not-has_each-clause-err : goal.returns-then-not-has_each-clause-err
returns-then-not-has_each-clause-err c = λ keep.
    lacking (columns c.args.schema.now) (selector_trees c.args.selectors) keep _ c.in_ok-items.ensures.ok c.at_top.result (sym (ap (have_names (columns c.args.schema.now)) c.as_slice.ensures.value) ∙ sym c.has_each.ensures ∙ c.if-not-has_each.true) c.at_top.ensures
