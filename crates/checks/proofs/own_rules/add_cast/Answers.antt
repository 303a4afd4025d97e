use Rattle.std.proofs.Common.{refl, arith, [], ◌∷◌}
use Rattle.plan_types.specs.Types.{ty}
use Rattle.plan_types.specs.declared.dtype.CastOptions.TheVariants.{Strict}
use Rattle.plan_dsl.specs.Ops.{CastOp}
use Rattle.plan_dsl.specs.Trees.{node, no_more, more}
use Rattle.plan_arena.specs.Items.{Grows}
use Rattle.plan_arena.specs.declared.aexpr.AExpr.TheVariants.{Cast}
use Rattle.plan_arena.proofs.ItemLemmas.{added_denotes, any_node, from_zero, tree_grown}
use Rattle.checks.proofs.own_rules.add_cast.Goals as goal

pub returns : goal.returns
returns c =
    let made = c.in_ok-node in
    let old = c.args.arena.now in
    let new = c.add.new.self in
    let item = Cast c.args.input c.args.dtype Strict in
    let op = CastOp (ty c.args.dtype) Strict in
    let operand = c.requires.tree in
    let g : Grows old new = record { added = item ∷ []; longer = made.ensures.ok } in
    let below = tree_grown 0 0 old new (omega arith) g c.args.input.0 operand (from_zero old c.args.input.0 operand c.requires.denotes) in
    let tree = node op (more operand no_more) in
    record { tree = tree; denotes = any_node 0 new made.node.0 tree (added_denotes 0 old new item made.node.0 op (c.args.input.0 ∷ []) (more operand no_more) (omega arith) made.ensures.ok made.ensures.node refl (below, tt)) }
