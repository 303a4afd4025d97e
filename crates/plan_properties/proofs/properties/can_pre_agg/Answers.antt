use Rattle.std.proofs.Common.{true, ap, subst}
use Rattle.std.specs.List.{AllByRecursion}
use Rattle.plan_arena.specs.Aggregates.{input_at, method_at}
use Rattle.plan_arena.specs.Denotation.{DenotesTree}
use Rattle.plan_arena.specs.Items.{HoldsExpression, expression_layer}
use Rattle.plan_arena.specs.Layers.{inputs_of, op_of}
use Rattle.plan_arena.proofs.ItemLemmas.{tree_within}
use Rattle.plan_properties.specs.Properties.{can_pre_agg}
use Rattle.plan_properties.proofs.AskingLemmas.{aggregates, counts_rows, no_aggregate, of_node, operands_denote}
use Rattle.plan_properties.proofs.properties.can_pre_agg.Goals as goal

pub get-requires : goal.get-requires
get-requires c = tree_within c.args.arena.now c.args.agg.0 c.requires

pub returns-in-Len : goal.returns-in-Len
returns-in-Len c = of_node c.args.arena.now c.args.agg.0 c.get.result.now c.get.ensures can_pre_agg true (counts_rows c.args.arena.now c.get.result.now c.in-Len.is)

pub is_made_of_parts-requires : goal.is_made_of_parts-requires
is_made_of_parts-requires c =
    (subst (AllByRecursion (DenotesTree (HoldsExpression c.args.arena.now))) (ap (λ item. inputs_of (expression_layer item)) c.in-Agg.is) (operands_denote c.args.arena.now c.args.agg.0 c.get.result.now c.get.ensures c.requires)).0

pub returns-in-Agg : goal.returns-in-Agg
returns-in-Agg c =
    let item = c.get.result.now in
    let aggregate = c.in-Agg.aggregate in
    of_node c.args.arena.now c.args.agg.0 item c.get.ensures can_pre_agg _ (aggregates c.args.arena.now (expression_layer item) (method_at aggregate) (input_at aggregate).0 _ (ap (λ item. op_of (expression_layer item)) c.in-Agg.is) (ap (λ item. inputs_of (expression_layer item)) c.in-Agg.is) c.is_made_of_parts.ensures)

pub returns-in_default : goal.returns-in_default
returns-in_default c = of_node c.args.arena.now c.args.agg.0 c.get.result.now c.get.ensures can_pre_agg _ (no_aggregate c.args.arena.now c.get.result.now c.in_default.not-Len c.in_default.not-Agg)
