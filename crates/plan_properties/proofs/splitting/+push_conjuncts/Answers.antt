use Rattle.std.proofs.Common.{[], ◌∷◌, arith}
use Rattle.plan_arena.proofs.ItemLemmas.{tree_within}
use Rattle.plan_infer.proofs.OperatorLemmas.{inputs_below}
use Rattle.plan_properties.proofs.PartLemmas.{both_parts, on_ok, only_part}
use Rattle.plan_properties.proofs.splitting.+push_conjuncts.Goals as goal

pub get-requires : goal.get-requires
get-requires t c = tree_within c.args.arena.now c.args.node.0 c.requires

pub push_conjuncts-requires : goal.push_conjuncts-requires
push_conjuncts-requires t c =
    let below = inputs_below c.args.arena.now c.args.node.0 c.get.result.now (c.in-Some.left.0 ∷ c.in-Some.right.0 ∷ []) c.get.ensures c.requires c.in-Some.ensures.1 in
    (omega (arith, c.decreases, below.0.1), below.0.0)

pub push_conjuncts-requires-in-Some : goal.push_conjuncts-requires-in-Some
push_conjuncts-requires-in-Some t c =
    let below = inputs_below c.args.arena.now c.args.node.0 c.get.result.now (c.in-Some.left.0 ∷ c.in-Some.right.0 ∷ []) c.get.ensures c.requires c.in-Some.ensures.1 in
    (omega (arith, c.decreases, below.1.0.1), below.1.0.0)

pub returns-in_ok-push_conjuncts-in-Some-clause-ok :
    goal.returns-in_ok-push_conjuncts-in-Some-clause-ok
returns-in_ok-push_conjuncts-in-Some-clause-ok t c =
    on_ok c.push_conjuncts-in-Some.result c.push_conjuncts-in-Some.ensures.ok
    (both_parts c.args.arena.now c.args.node.0 c.get.result.now c.get.ensures c.in-Some.left.0 c.in-Some.right.0 c.in-Some.ensures.0 c.in-Some.ensures.1 c.args.parts.now.items c.push_conjuncts.new.parts.items c.push_conjuncts-in-Some.new.parts.items c.in_ok-push_conjuncts-in-Some.ensures.ok)

pub returns-in-None-clause-ok : goal.returns-in-None-clause-ok
returns-in-None-clause-ok t c =
    on_ok c.push_part.result c.push_part.ensures.ok
    (only_part c.args.arena.now c.args.node.0 c.get.result.now c.get.ensures c.in-None.ensures c.args.parts.now.items c.push_part.new.parts.items)
