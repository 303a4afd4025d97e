use Rattle.std.proofs.Common.{refl}
use Rattle.plan_arena.proofs.OptionLemmas.{options_stay}
use Rattle.plan_lower.proofs.conversion.nodes.add_empty_table.Goals as goal

pub returns-clause-options : goal.returns-clause-options
returns-clause-options c = options_stay c.args.arena.now c.add.new.self _ c.in_ok-node.ensures.ok refl
