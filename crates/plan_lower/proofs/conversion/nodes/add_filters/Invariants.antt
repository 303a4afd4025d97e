use Rattle.std.proofs.Common.{◌≡◌, vec_len}
use Rattle.plan_arena.specs.Items.{Grows}
use Rattle.plan_arena.specs.Options.{options_of}
use Rattle.plan_lower.proofs.FilterLemmas.{Adding}
use Rattle.plan_lower.proofs.conversion.nodes.add_filters.Given as goal

abbrev pub invariant-loop-predicate : goal.invariant-loop-predicate
invariant-loop-predicate l =
    Adding l.initial.predicates.items l.predicates.items l.lp_arena l.node.0 l.fn.input.0 × Grows l.initial.lp_arena l.lp_arena × (options_of l.lp_arena ≡ options_of l.initial.lp_arena)

abbrev pub decreases-loop-predicate : goal.decreases-loop-predicate
decreases-loop-predicate l = vec_len l.predicates
