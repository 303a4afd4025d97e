use Rattle.std.proofs.Common.{◌+◌, arith}
use Rattle.plan_types.specs.Schemas.{columns}
use Rattle.plan_types.proofs.ResultLemmas.{passed_on}
use Rattle.plan_dsl.specs.Registry.{registry}
use Rattle.plan_arena.specs.Denotation.{DenotesTree}
use Rattle.plan_arena.specs.Items.{HoldsExpression, numbers}
use Rattle.plan_arena.proofs.NumberLemmas.{number_at}
use Rattle.plan_infer.proofs.TableLemmas.{all_at, all_taken, extends_then}
use Rattle.plan_coerce.specs.Optimizer.{HasTyping}
use Rattle.plan_coerce.proofs.TypedRootLemmas.{among_at, kept_has_typing}
use Rattle.plan_coerce.proofs.stack_opt.type_nodes.Goals as goal

pub infer_once-requires-clause-tree : goal.infer_once-requires-clause-tree
infer_once-requires-clause-tree g c =
    all_at (DenotesTree (HoldsExpression c.args.arena.now)) c.args.nodes.now c.loop-node.node-index (record { 0 = 0 }) c.requires.trees c.loop-node-test.true

pub returns-in_err-infer_once-clause-err : goal.returns-in_err-infer_once-clause-err
returns-in_err-infer_once-clause-err g c =
    let nodes = c.args.nodes.now in
    let i = c.loop-node.node-index in
    passed_on c.from_residual.result c.in_err-infer_once.field-0.0 _ c.from_residual.ensures.1 (_, among_at (numbers nodes) i _ (number_at nodes i (record { 0 = 0 }) c.loop-node-test.true), c.in_err-infer_once.ensures.err)

pub loop-node-preserved : goal.loop-node-preserved
loop-node-preserved g c =
    let r = registry c.args.udfs.now in
    let s = columns c.args.schema.now in
    let done = c.in_ok-infer_once.ensures in
    record {
      typed = all_taken (HasTyping r s c.args.arena.now) c.args.nodes.now c.loop-node.node-index (c.loop-node.node-index + 1) (record { 0 = 0 }) (omega arith) c.loop-node.invariant.typed c.loop-node-test.true (kept_has_typing r s c.args.arena.now c.infer_once.new.types _ done.right done.kept);
      right = done.right;
      kept = extends_then c.args.types.now c.loop-node.types c.infer_once.new.types c.loop-node.invariant.kept c.infer_once.ensures.extends;
    }

pub returns-in_err-infer_once-clause-kept : goal.returns-in_err-infer_once-clause-kept
returns-in_err-infer_once-clause-kept g c = extends_then c.args.types.now c.loop-node.types c.infer_once.new.types c.loop-node.invariant.kept c.infer_once.ensures.extends
