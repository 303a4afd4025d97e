use Rattle.std.proofs.Common.{◌≡◌}
use Rattle.plan_types.specs.Schemas.{columns}
use Rattle.plan_types.proofs.ResultLemmas.{passed_on}
use Rattle.plan_dsl.specs.Expressions.{trees_of}
use Rattle.plan_dsl.specs.SortFlags.{keys_served}
use Rattle.plan_lower.proofs.SortLemmas.{flags_unserved}
use Rattle.plan_lower.proofs.WorkLemmas.{list_unexpanded}
use Rattle.plan_lower.proofs.conversion.sorts.sort_keys.Goals as goal

pub returns-in_err-exprs-clause-err : goal.returns-in_err-exprs-clause-err
returns-in_err-exprs-clause-err c =
    passed_on c.from_residual.result c.in_err-exprs.field-0.0 _ c.from_residual.ensures.1 (list_unexpanded (columns c.args.schema.now) (trees_of c.args.by) _ _ c.in_err-exprs.ensures.err)

pub returns-clause-err : goal.returns-clause-err
returns-clause-err c =
    let lent = c.as_slice.ensures.value in
    let own = c.in_ok-exprs.counts-is in
    let counted = c.in_ok-exprs.ensures.counts in
    let are : c.as_slice.result.now ≡ keys_served (columns c.args.schema.now) (trees_of c.args.by) = cc in
    flags_unserved (columns c.args.schema.now) (trees_of c.args.by) c.args.options c.as_slice.result.now _ c.in-Err.error c.in_ok-exprs.ensures.ok.trees are c.in-Err.ensures.err
