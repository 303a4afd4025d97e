use Rattle.std.proofs.Common.{map, refl}
use Rattle.plan_types.proofs.ResultLemmas.{passed_on}
use Rattle.plan_types.specs.Schemas.{columns}
use Rattle.plan_dsl.specs.Expressions.{plain_tree}
use Rattle.plan_dsl.proofs.ExprLemmas.{function_listed}
use Rattle.plan_expand.proofs.SpreadLemmas.{plain_again, spread_made, spread_refused}
use Rattle.plan_expand.proofs.spreading.horizontal_spread.Goals as goal

pub returns-in_err-input-in-Function-clause-err : goal.returns-in_err-input-in-Function-clause-err
returns-in_err-input-in-Function-clause-err c =
    let kind = c.in-Function in
    passed_on c.from_residual.result c.in_err-input-in-Function.field-0.0 _ c.from_residual.ensures.1 (spread_refused c.args.keys.now.keys (columns c.args.schema.now) _ (function_listed c.args.expr kind.input kind.function kind.is) c.requires c.in_err-input-in-Function.ensures.err)

pub returns-in_ok-input-in-Function-clause-ok : goal.returns-in_ok-input-in-Function-clause-ok
returns-in_ok-input-in-Function-clause-ok c =
    let kind = c.in-Function in
    let made = c.in_ok-input-in-Function in
    spread_made c.args.keys.now.keys (columns c.args.schema.now) (map plain_tree made.input.items.items) (function_listed c.args.expr kind.input kind.function kind.is) (function_listed _ made.input kind.function refl) c.requires made.ensures.ok (plain_again made.input.items.items made.ensures.plain)
