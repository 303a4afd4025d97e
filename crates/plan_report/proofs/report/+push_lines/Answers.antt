use Rattle.std.proofs.Common.{arith}
use Rattle.plan_types.specs.Schemas.{columns}
use Rattle.plan_arena.proofs.ItemLemmas.{item_inputs, plan_within}
use Rattle.plan_report.proofs.NodeLemmas.{plan_inputs, lent_schema, leaf_lines, no_input, only_input, select_lines, kept_lines}
use Rattle.plan_report.proofs.report.+push_lines.Goals as goal

pub get-item-requires : goal.get-item-requires
get-item-requires t c = plan_within c.args.plan.now.expr_arena c.args.plan.now.lp_arena c.args.node.0 c.requires

pub push_lines-requires : goal.push_lines-requires
push_lines-requires t c =
    let inputs = plan_inputs c.args.plan.now.expr_arena c.args.plan.now.lp_arena c.args.node.0 c.get-item.result.now c.get-item.ensures _ _ c.in-Some.ensures.is c.requires in
    (omega (arith, c.decreases, inputs.0.1), inputs.0.0)

pub get-requires : goal.get-requires
get-requires t c =
    let inputs = plan_inputs c.args.plan.now.expr_arena c.args.plan.now.lp_arena c.args.node.0 c.get-item.result.now c.get-item.ensures _ _ (only_input c.get-item.result.now c.in-Some-get_input.input.0 c.in-Some-get_input.ensures) c.requires in
    plan_within c.args.plan.now.expr_arena c.args.plan.now.lp_arena c.in-Some-get_input.input.0 inputs.0.0

pub schema_ref-schema-requires : goal.schema_ref-schema-requires
schema_ref-schema-requires t c =
    let inputs = plan_inputs c.args.plan.now.expr_arena c.args.plan.now.lp_arena c.args.node.0 c.get-item.result.now c.get-item.ensures _ _ (only_input c.get-item.result.now c.in-Some-get_input.input.0 c.in-Some-get_input.ensures) c.requires in
    item_inputs c.args.plan.now.expr_arena c.args.plan.now.lp_arena c.in-Some-get_input.input.0 c.get.result.now c.get.ensures inputs.0.0

pub push_lines-requires-in-Some-get_input : goal.push_lines-requires-in-Some-get_input
push_lines-requires-in-Some-get_input t c =
    let inputs = plan_inputs c.args.plan.now.expr_arena c.args.plan.now.lp_arena c.args.node.0 c.get-item.result.now c.get-item.ensures _ _ (only_input c.get-item.result.now c.in-Some-get_input.input.0 c.in-Some-get_input.ensures) c.requires in
    (omega (arith, c.decreases, inputs.0.1), inputs.0.0)

pub returns-in-None-get_input-clause-lines : goal.returns-in-None-get_input-clause-lines
returns-in-None-get_input-clause-lines t c registry tree d accepted schema =
    leaf_lines c.args.plan.now.expr_arena c.args.plan.now.lp_arena c.args.node.0 c.get-item.result.now c.get-item.ensures (columns c.args.schema.now) registry c.args.path.now.items _ _ (no_input c.get-item.result.now c.in-None-get_input.ensures) _ (rw (← c.as_slice.ensures.value, ← c.name.ensures) c.in_ok-push_line.ensures) tree d schema

pub returns-in_ok-push_lines-in-Some-clause-lines : goal.returns-in_ok-push_lines-in-Some-clause-lines
returns-in_ok-push_lines-in-Some-clause-lines t c registry tree d accepted schema =
    kept_lines c.args.plan.now.expr_arena c.args.plan.now.lp_arena c.args.node.0 c.get-item.result.now c.get-item.ensures (columns c.args.schema.now) registry c.args.path.now.items _ _ c.in-Some.ensures _ _ _ (rw (← c.as_slice.ensures.value, ← c.name.ensures) c.in_ok-push_line.ensures) c.in_ok-push-in-Some.ensures.items (c.in_ok-push_lines-in-Some.ensures.lines registry) tree d accepted schema

pub returns-in_ok-push_lines-in-Some-get_input-clause-lines : goal.returns-in_ok-push_lines-in-Some-get_input-clause-lines
returns-in_ok-push_lines-in-Some-get_input-clause-lines t c registry tree d accepted schema =
    select_lines c.args.plan.now.expr_arena c.args.plan.now.lp_arena c.args.node.0 c.get-item.result.now c.get-item.ensures (columns c.args.schema.now) registry c.args.path.now.items _ _ _ (only_input c.get-item.result.now c.in-Some-get_input.input.0 c.in-Some-get_input.ensures) _ _ _ (columns c.schema_ref-schema.result.now) (rw (← c.as_slice.ensures.value, ← c.name.ensures) c.in_ok-push_line.ensures) c.in_ok-push-in-Some-get_input.ensures.items (lent_schema c.args.plan.now.expr_arena c.args.plan.now.lp_arena c.in-Some-get_input.input.0 c.get.result.now (columns c.schema_ref-schema.result.now) c.get.ensures c.schema_ref-schema.ensures.rule registry) (c.in_ok-push_lines-in-Some-get_input.ensures.lines registry) tree d accepted schema
