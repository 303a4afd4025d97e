use Rattle.std.proofs.Common.{refl}
use Rattle.plan_arena.proofs.OptionLemmas.{options_added}
use Rattle.plan_lower.specs.Lowering.{columns_at}
use Rattle.plan_lower.proofs.AddedLemmas.{kept_at, layer_added, one_grows}
use Rattle.plan_lower.proofs.RecordedLemmas.{columns_stay, records_stay}
use Rattle.plan_lower.proofs.conversion.plain_nodes.add_plain.Goals as goal

pub returns-clause-ok : goal.returns-clause-ok
returns-clause-ok c = layer_added c.args.lp_arena.now c.add.new.self c.args.item c.in_ok-node.node.0 _ c.in_ok-node.ensures.ok c.in_ok-node.ensures.node refl

pub returns-clause-plain : goal.returns-clause-plain
returns-clause-plain c = λ work own lists is keeps layer registry items.
    let plans = c.args.lp_arena.now in
    let new = c.add.new.self in
    let added = c.in_ok-node.ensures.ok in
    let columns = columns_stay plans new c.args.input.schema_node c.args.input.schema_node (one_grows plans new _ added) refl c.requires in
    kept_at registry (columns_at plans c.args.input.schema_node.0) _ items new c.in_ok-node.node.0 c.args.input.node.0 work own lists is keeps columns (layer_added plans new c.args.item c.in_ok-node.node.0 _ added c.in_ok-node.ensures.node layer)

pub returns-clause-schema : goal.returns-clause-schema
returns-clause-schema c =
    columns_stay c.args.lp_arena.now c.add.new.self c.args.input.schema_node c.args.input.schema_node (one_grows c.args.lp_arena.now c.add.new.self _ c.in_ok-node.ensures.ok) refl c.requires

pub returns-clause-adds : goal.returns-clause-adds
returns-clause-adds c =
    let grows = one_grows c.args.lp_arena.now c.add.new.self _ c.in_ok-node.ensures.ok in
    record {
      recorded = records_stay c.args.lp_arena.now c.add.new.self c.args.input.schema_node c.args.input.schema_node grows refl c.requires;
      grows = grows;
      options = options_added c.args.lp_arena.now c.add.new.self _ c.in_ok-node.ensures.ok;
    }
