use Rattle.std.proofs.Common.{refl, arith}
use Rattle.plan_dsl.specs.Ops.{ColumnOp}
use Rattle.plan_dsl.specs.Trees.{node, no_more}
use Rattle.plan_arena.specs.declared.aexpr.AExpr.TheVariants.{Column}
use Rattle.plan_arena.proofs.ItemLemmas.{added_denotes, any_node}
use Rattle.checks.proofs.own_rules.add_column.Goals as goal

pub returns : goal.returns
returns c =
    let made = c.in_ok-node in
    let tree = node (ColumnOp c.args.name) no_more in
    let new = c.add.new.self in
    record { tree = tree; denotes = any_node 0 new made.node.0 tree (added_denotes 0 c.args.arena.now new (Column c.args.name) made.node.0 (ColumnOp c.args.name) _ no_more (omega arith) made.ensures.ok made.ensures.node refl tt) }
