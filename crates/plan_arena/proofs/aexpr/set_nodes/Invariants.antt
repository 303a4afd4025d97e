use Rattle.std.proofs.Common.{◌≡◌, map, take}
use Rattle.plan_arena.proofs.aexpr.set_nodes.Given as goal

-- so many nodes are the new ones, and no name has changed
abbrev pub invariant-loop-index : goal.invariant-loop-index
invariant-loop-index l =
    record {
      nodes : map (λ e. e.node) (take l.index l.exprs) ≡ take l.index l.inputs;
      names : map (λ e. e.output_name) l.exprs ≡ map (λ e. e.output_name) l.initial.exprs;
    }
