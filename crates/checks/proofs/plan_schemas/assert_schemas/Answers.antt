use Rattle.plan_arena.proofs.ItemLemmas.{item_inputs}
use Rattle.checks.proofs.plan_schemas.assert_schemas.Goals as goal

pub input_schema-input-requires : goal.input_schema-input-requires
input_schema-input-requires g c =
    let plan = c.in-Ok.plan in
    let typed = c.in-Ok.ensures.typed in
    item_inputs plan.expr_arena plan.lp_arena plan.lp_top.0 c.get.result.now c.get.ensures (record { tree = typed.tree; denotes = typed.denotes })
