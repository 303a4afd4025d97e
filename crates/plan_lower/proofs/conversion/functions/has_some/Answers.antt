use Rattle.std.proofs.Common.{drop, ◌+◌, sym, ◌∙◌}
use Rattle.plan_types.specs.Schemas.{columns}
use Rattle.plan_types.proofs.ListLemmas.{item_left}
use Rattle.plan_lower.proofs.FunctionLemmas.{some_more}
use Rattle.plan_lower.proofs.conversion.functions.has_some.Goals as goal

pub returns-then-contains : goal.returns-then-contains
returns-then-contains c =
    let names = c.args.names.now in
    let i = c.loop-name.name-index in
    let name = c.name-item.result in
    sym (some_more (columns c.args.schema.now) (drop i names) (drop (i + 1) names) name _ (item_left names i name name c.loop-name-test.true c.name-item.is) (sym c.contains.ensures ∙ c.if-contains.true)) ∙ c.loop-name.invariant

pub loop-name-preserved : goal.loop-name-preserved
loop-name-preserved c =
    let names = c.args.names.now in
    let i = c.loop-name.name-index in
    let name = c.name-item.result in
    sym (some_more (columns c.args.schema.now) (drop i names) (drop (i + 1) names) name _ (item_left names i name name c.loop-name-test.true c.name-item.is) (sym c.contains.ensures ∙ c.if-contains.false)) ∙ c.loop-name.invariant
