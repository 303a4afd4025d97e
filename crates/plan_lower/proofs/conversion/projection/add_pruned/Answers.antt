use Rattle.std.proofs.Common.{false}
use Rattle.plan_types.specs.Schemas.{columns}
use Rattle.plan_types.proofs.ResultLemmas.{passed_on}
use Rattle.plan_dsl.specs.Aliases.{pruned}
use Rattle.plan_dsl.specs.Expressions.{plain_tree}
use Rattle.plan_dsl.specs.Registry.{registry}
use Rattle.plan_arena.proofs.ItemLemmas.{any_node}
use Rattle.plan_infer.proofs.TableLemmas.{right_grown}
use Rattle.plan_lower.proofs.conversion.projection.add_pruned.Goals as goal

pub infer-requires : goal.infer-requires
infer-requires c =
    let tree = pruned false c.args.write (plain_tree c.args.expr) in
    record {
      tree = record { tree = tree; denotes = any_node _ c.add_nodes.new.arena c.in_ok-node.node.0 tree c.in_ok-node.ensures.denotes };
      right = right_grown (registry c.args.udfs.now) (columns c.args.schema.now) c.args.arena.now c.add_nodes.new.arena c.args.types.now c.in_ok-node.ensures.grows c.requires.right;
    }

pub returns-in_err-infer-clause-err : goal.returns-in_err-infer-clause-err
returns-in_err-infer-clause-err c =
    let tree = pruned false c.args.write (plain_tree c.args.expr) in
    let d = any_node _ c.add_nodes.new.arena c.in_ok-node.node.0 tree c.in_ok-node.ensures.denotes in
    passed_on c.from_residual-in_err-infer.result c.in_err-infer.field-0.0 _ c.from_residual-in_err-infer.ensures.1 (c.in_err-infer.ensures.err tree d)

pub returns-in_err-node-clause-right : goal.returns-in_err-node-clause-right
returns-in_err-node-clause-right c =
    right_grown (registry c.args.udfs.now) (columns c.args.schema.now) c.args.arena.now c.add_nodes.new.arena c.args.types.now c.add_nodes.ensures.grows c.requires.right
