use Rattle.std.proofs.Common.{drop, ◌+◌, sym, ◌∙◌}
use Rattle.plan_types.specs.Schemas.{columns}
use Rattle.plan_types.proofs.ListLemmas.{item_left}
use Rattle.plan_dsl.proofs.FunctionSchemaLemmas.{names_end, names_more}
use Rattle.plan_dsl.proofs.function_schema.has_each.Goals as goal

pub returns-then-not-contains : goal.returns-then-not-contains
returns-then-not-contains c =
    let names = c.args.names.now in
    let i = c.loop-name.name-index in
    let name = c.name-item.result in
    names_end (columns c.args.schema.now) (drop i names) (drop (i + 1) names) name _ (item_left names i name name c.loop-name-test.true c.name-item.is) (sym c.contains.ensures ∙ c.if-not-contains.true) c.loop-name.invariant

pub loop-name-preserved : goal.loop-name-preserved
loop-name-preserved c =
    let names = c.args.names.now in
    let i = c.loop-name.name-index in
    let name = c.name-item.result in
    names_more (columns c.args.schema.now) (drop i names) (drop (i + 1) names) name _ (item_left names i name name c.loop-name-test.true c.name-item.is) (sym c.contains.ensures ∙ c.if-not-contains.false) c.loop-name.invariant
