use Rattle.std.proofs.Common.{[], ◌∷◌, refl, ◌∙◌}
use Rattle.plan_arena.proofs.ItemLemmas.{grows_then}
use Rattle.plan_arena.proofs.OptionLemmas.{options_stay}
use Rattle.plan_lower.proofs.FilterLemmas.{one_added}
use Rattle.plan_lower.proofs.conversion.nodes.add_filters.Goals as goal

pub loop-predicate-preserved : goal.loop-predicate-preserved
loop-predicate-preserved c =
    let before = c.loop-predicate in (
      one_added c.args.predicates.items c.pop.new.self.items before.predicates.items c.in-Some.predicate before.lp_arena c.add.new.self _ before.node.0 c.in_ok-node.node.0 c.args.input.0 c.in-Some.ensures.items c.in_ok-node.ensures.ok c.in_ok-node.ensures.node refl before.invariant.0,
      grows_then c.args.lp_arena.now before.lp_arena c.add.new.self before.invariant.1 (record { added = _ ∷ []; longer = c.in_ok-node.ensures.ok }),
      options_stay before.lp_arena c.add.new.self _ c.in_ok-node.ensures.ok refl ∙ before.invariant.2,
    )
