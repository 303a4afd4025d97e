use Rattle.plan_types.specs.Schemas.{columns}
use Rattle.plan_types.proofs.ResultLemmas.{passed_on}
use Rattle.plan_dsl.specs.Expressions.{selector_trees}
use Rattle.plan_dsl.specs.Drops.{left_but}
use Rattle.plan_dsl.specs.Markers.{names_of_selectors}
use Rattle.plan_lower.proofs.BuiltLemmas.{unexpanded_then}
use Rattle.plan_lower.proofs.DropLemmas.{left_found, left_lacking}
use Rattle.plan_lower.proofs.conversion.drops.columns_left.Goals as goal

pub returns-clause-ok : goal.returns-clause-ok
returns-clause-ok c =
    left_found (columns c.args.schema.now) (selector_trees c.args.function.to_drop) c.args.function.strict c.lacks_some.result c.in_ok-names.names.keys (columns c.in_ok-own.own) c.in_ok-names.ensures.ok c.lacks_some.ensures c.if-lacks_some.false c.in_ok-own.ensures.ok

pub returns-in_err-names-clause-err : goal.returns-in_err-names-clause-err
returns-in_err-names-clause-err c =
    passed_on c.from_residual.result c.in_err-names.field-0.0 _ c.from_residual.ensures.1 (unexpanded_then (names_of_selectors (columns c.args.schema.now) (selector_trees c.args.function.to_drop)) (left_but c.args.function.strict (columns c.args.schema.now)) _ c.in_err-names.ensures.err)

pub returns-then-lacks_some-clause-err : goal.returns-then-lacks_some-clause-err
returns-then-lacks_some-clause-err c =
    left_lacking (columns c.args.schema.now) (selector_trees c.args.function.to_drop) c.args.function.strict c.lacks_some.result c.in_ok-names.names.keys c.at_top.result c.in_ok-names.ensures.ok c.lacks_some.ensures c.if-lacks_some.true c.at_top.ensures
