use Rattle.std.proofs.Common.{[], Ok, subst}
use Rattle.plan_lower.specs.Lowering.{columns_at}
use Rattle.plan_lower.specs.Steps.{AddsStep, plain_work}
use Rattle.plan_lower.proofs.AddedLemmas.{plain_keeps, plain_kept}
use Rattle.plan_lower.proofs.conversion.plain_nodes.lower_plain.Goals as goal

pub returns : goal.returns
returns c =
    let work = plain_work c.args.plain in
    let lowered = c.in_ok-lowered in
    record {
      ok = lowered.ensures.plain work work [] (plain_kept (columns_at c.args.lp_arena.now c.args.input.schema_node.0) c.args.plain) (plain_keeps c.args.plain) c.plain_item-item.ensures.layer;
      err = tt;
      adds = subst (λ own. AddsStep c.args.lp_arena.now c.add_plain.new.lp_arena own (Ok lowered.lowered)) c.plain_item-item.ensures.option lowered.ensures.adds;
    }
