use Rattle.std.proofs.Common.{◌<◌, [], ◌∷◌, map, take, refl, sym, ap, ◌∙◌, subst, arith}
use Rattle.std.specs.List.{AllByRecursion}
use Rattle.plan_types.specs.Schemas.{columns}
use Rattle.plan_types.proofs.ResultLemmas.{passed_on}
use Rattle.plan_dsl.specs.Ops.{BinaryOp, ColumnOp}
use Rattle.plan_dsl.specs.Literals.{literal_op}
use Rattle.plan_dsl.specs.Registry.{registry}
use Rattle.plan_arena.specs.Denotation.{DenotesTree, depth_at}
use Rattle.plan_arena.specs.Layers.{inputs_of, op_of, shape_of}
use Rattle.plan_arena.specs.Items.{HoldsExpression, expression_layer}
use Rattle.plan_arena.proofs.ItemLemmas.{expression_inputs, got_held, tree_within}
use Rattle.plan_arena.proofs.NumberLemmas.{all_there, all_weaker}
use Rattle.plan_infer.specs.KeptTypes.{IsKept}
use Rattle.plan_infer.proofs.OperatorLemmas.{below_first, below_second, operands_below}
use Rattle.plan_infer.proofs.TableLemmas.{all_ended, all_more, below_more, below_over, extends_then, found_kept, input_refused, layer_held, no_deeper, none_found, not_yet, still_kept}
use Rattle.plan_infer.proofs.TypingLemmas.{if_err}
use Rattle.plan_infer.proofs.typing.+type_node.Goals as goal

pub returns-then-is_some-clause-kept : goal.returns-then-is_some-clause-kept
returns-then-is_some-clause-kept g t c =
    found_kept c.args.types.now c.args.node.0 (λ own. own.now) c.kept.result c.kept.ensures (sym c.is_some.ensures ∙ c.if-is_some.true)

pub get-item-requires : goal.get-item-requires
get-item-requires g t c = tree_within c.args.arena.now c.args.node.0 c.requires.tree

-- ---- an operator's operands

pub type_node-requires : goal.type_node-requires
type_node-requires g t c =
    let b = c.in-BinaryExpr in
    let here = operands_below c.args.arena.now c.args.node.0 c.get-item.result.now b.left b.op b.right c.get-item.ensures c.requires.tree b.is in
    λ κs out. (omega (arith, here.0.1, c.decreases), (out, (here.0.0, c.requires.right)))

pub returns-in_err-type_node-clause-below : goal.returns-in_err-type_node-clause-below
returns-in_err-type_node-clause-below g t c =
    let b = c.in-BinaryExpr in
    let items = c.args.arena.now in
    let here = operands_below items c.args.node.0 c.get-item.result.now b.left b.op b.right c.get-item.ensures c.requires.tree b.is in
    λ n k. no_deeper items c.args.types.now c.args.node.0 n (below_first items c.args.types.now c.type_node.new.types c.args.node.0 b.left.0 here.0.1 c.in_err-type_node.ensures.below n k)

pub returns-in_err-type_node-clause-err : goal.returns-in_err-type_node-clause-err
returns-in_err-type_node-clause-err g t c =
    let b = c.in-BinaryExpr in
    let items = c.args.arena.now in
    let op = op_of (expression_layer c.get-item.result.now) in
    let error = c.in_err-type_node.field-0.0 in
    let handed = c.from_residual in
    let held = subst (HoldsExpression items c.args.node.0 op) (ap (λ i. inputs_of (expression_layer i)) b.is) (layer_held items c.args.node.0 c.get-item.result.now c.get-item.ensures) in
    passed_on handed.result error _ handed.ensures.1 (input_refused (registry c.args.udfs.now) (columns c.args.schema.now) items c.args.types.now c.requires.right error c.args.node.0 op (b.left.0 ∷ b.right.0 ∷ []) 0 b.left.0 held tt refl c.in_err-type_node.ensures.err)

pub type_node-requires-in-BinaryExpr : goal.type_node-requires-in-BinaryExpr
type_node-requires-in-BinaryExpr g t c =
    let b = c.in-BinaryExpr in
    let here = operands_below c.args.arena.now c.args.node.0 c.get-item.result.now b.left b.op b.right c.get-item.ensures c.requires.tree b.is in
    λ κs out. (omega (arith, here.1.1, c.decreases), (out, (here.1.0, c.in_ok-type_node.ensures.right)))

pub returns-in_err-type_node-2-clause-extends : goal.returns-in_err-type_node-2-clause-extends
returns-in_err-type_node-2-clause-extends g t c =
    extends_then c.args.types.now c.type_node.new.types c.type_node-in-BinaryExpr.new.types c.in_ok-type_node.ensures.extends c.in_err-type_node-2.ensures.extends

pub returns-in_err-type_node-2-clause-below : goal.returns-in_err-type_node-2-clause-below
returns-in_err-type_node-2-clause-below g t c =
    let b = c.in-BinaryExpr in
    let items = c.args.arena.now in
    let here = operands_below items c.args.node.0 c.get-item.result.now b.left b.op b.right c.get-item.ensures c.requires.tree b.is in
    λ n k. no_deeper items c.args.types.now c.args.node.0 n (below_second items c.args.types.now c.type_node.new.types c.args.node.0 b.left.0 here.0.1 c.in_ok-type_node.ensures.below c.type_node-in-BinaryExpr.new.types b.right.0 here.1.1 c.in_err-type_node-2.ensures.below n k)

pub returns-in_err-type_node-2-clause-err : goal.returns-in_err-type_node-2-clause-err
returns-in_err-type_node-2-clause-err g t c =
    let b = c.in-BinaryExpr in
    let items = c.args.arena.now in
    let op = op_of (expression_layer c.get-item.result.now) in
    let error = c.in_err-type_node-2.field-0.0 in
    let handed = c.from_residual-in_err-type_node-2 in
    let held = subst (HoldsExpression items c.args.node.0 op) (ap (λ i. inputs_of (expression_layer i)) b.is) (layer_held items c.args.node.0 c.get-item.result.now c.get-item.ensures) in
    let first = c.in_ok-type_node.ensures in
    passed_on handed.result error _ handed.ensures.1 (input_refused (registry c.args.udfs.now) (columns c.args.schema.now) items c.type_node.new.types first.right error c.args.node.0 op (b.left.0 ∷ b.right.0 ∷ []) 1 b.right.0 held (first.kept, tt) refl c.in_err-type_node-2.ensures.err)

pub type_operator-requires : goal.type_operator-requires
type_operator-requires g t c =
    let b = c.in-BinaryExpr in
    let items = c.args.arena.now in
    let here = operands_below items c.args.node.0 c.get-item.result.now b.left b.op b.right c.get-item.ensures c.requires.tree b.is in
    let held = got_held items c.args.node.0 c.get-item.result.now (BinaryOp b.op) (b.left.0 ∷ b.right.0 ∷ []) c.get-item.ensures (ap expression_layer b.is) in
    let none = none_found c.args.types.now c.args.node.0 (λ own. own.now) c.kept.result c.kept.ensures (sym c.is_some.ensures ∙ c.if-is_some.false) in
    let mid = c.type_node.new.types in
    let new = c.type_node-in-BinaryExpr.new.types in
    let first = c.in_ok-type_node.ensures in
    let second = c.in_ok-type_node-2.ensures in
    record {
      tree = c.requires.tree;
      held = held;
      inputs = (still_kept mid new second.extends b.left.0 first.kept, second.kept);
      none = not_yet items c.args.types.now new new c.args.node.0 (below_second items c.args.types.now mid c.args.node.0 b.left.0 here.0.1 first.below new b.right.0 here.1.1 second.below) none;
    }

pub returns-in-BinaryExpr-clause-extends : goal.returns-in-BinaryExpr-clause-extends
returns-in-BinaryExpr-clause-extends g t c =
    let mid = c.type_node.new.types in
    let new = c.type_node-in-BinaryExpr.new.types in
    extends_then c.args.types.now new c.type_operator.new.types (extends_then c.args.types.now mid new c.in_ok-type_node.ensures.extends c.in_ok-type_node-2.ensures.extends) c.type_operator.ensures.extends

pub returns-in-BinaryExpr-clause-below : goal.returns-in-BinaryExpr-clause-below
returns-in-BinaryExpr-clause-below g t c =
    let b = c.in-BinaryExpr in
    let items = c.args.arena.now in
    let here = operands_below items c.args.node.0 c.get-item.result.now b.left b.op b.right c.get-item.ensures c.requires.tree b.is in
    let mid = c.type_node.new.types in
    let new = c.type_node-in-BinaryExpr.new.types in
    below_over items c.args.types.now new c.type_operator.new.types c.args.node.0 (below_second items c.args.types.now mid c.args.node.0 b.left.0 here.0.1 c.in_ok-type_node.ensures.below new b.right.0 here.1.1 c.in_ok-type_node-2.ensures.below) c.type_operator.ensures.only

pub returns-in-BinaryExpr-clause-err : goal.returns-in-BinaryExpr-clause-err
returns-in-BinaryExpr-clause-err g t c =
    if_err c.type_operator.result _ _ (λ error refused. refused (registry c.args.udfs.now) (columns c.args.schema.now) c.in_ok-type_node-2.ensures.right) c.type_operator.ensures.err

-- ---- any inputs

pub type_node-requires-in-loop-index : goal.type_node-requires-in-loop-index
type_node-requires-in-loop-index g t c =
    let items = c.args.arena.now in
    let n = c.args.node.0 in
    let depth = depth_at (shape_of (map expression_layer items)) in
    let held = layer_held items n c.get-item.result.now c.get-item.ensures in
    let all = subst (AllByRecursion (λ m. DenotesTree (HoldsExpression items) m × (depth m < depth n))) (sym c.input_nodes-inputs.ensures) (expression_inputs items n _ _ held c.requires.tree) in
    let here = all_there (λ m. DenotesTree (HoldsExpression items) m × (depth m < depth n)) c.input_nodes-inputs.result all c.loop-index.index c.at.result.0 c.at.ensures in
    λ κs out. (omega (arith, here.1, c.decreases), (out, (here.0, c.loop-index.invariant.right)))

pub returns-in_err-type_node-3-clause-extends : goal.returns-in_err-type_node-3-clause-extends
returns-in_err-type_node-3-clause-extends g t c =
    extends_then c.args.types.now c.loop-index.types c.type_node-in-loop-index.new.types c.loop-index.invariant.extends c.in_err-type_node-3.ensures.extends

pub returns-in_err-type_node-3-clause-err : goal.returns-in_err-type_node-3-clause-err
returns-in_err-type_node-3-clause-err g t c =
    let items = c.args.arena.now in
    let op = op_of (expression_layer c.get-item.result.now) in
    let error = c.in_err-type_node-3.field-0.0 in
    let handed = c.from_residual-in_err-type_node-3 in
    let held = subst (HoldsExpression items c.args.node.0 op) (sym c.input_nodes-inputs.ensures) (layer_held items c.args.node.0 c.get-item.result.now c.get-item.ensures) in
    let before = c.loop-index.invariant in
    passed_on handed.result error _ handed.ensures.1 (input_refused (registry c.args.udfs.now) (columns c.args.schema.now) items c.loop-index.types before.right error c.args.node.0 op c.input_nodes-inputs.result c.loop-index.index c.at.result.0 held before.kept c.at.ensures c.in_err-type_node-3.ensures.err)

pub loop-index-preserved : goal.loop-index-preserved
loop-index-preserved g t c =
    let items = c.args.arena.now in
    let depth = depth_at (shape_of (map expression_layer items)) in
    let held = layer_held items c.args.node.0 c.get-item.result.now c.get-item.ensures in
    let all = subst (AllByRecursion (λ m. DenotesTree (HoldsExpression items) m × (depth m < depth c.args.node.0))) (sym c.input_nodes-inputs.ensures) (expression_inputs items c.args.node.0 _ _ held c.requires.tree) in
    let ns = c.input_nodes-inputs.result in
    let here = all_there (λ m. DenotesTree (HoldsExpression items) m × (depth m < depth c.args.node.0)) ns all c.loop-index.index c.at.result.0 c.at.ensures in
    let before = c.loop-index.invariant in
    let one = c.in_ok-type_node-3.ensures in
    let new = c.type_node-in-loop-index.new.types in
    record {
      right = one.right;
      extends = extends_then c.args.types.now c.loop-index.types new before.extends one.extends;
      kept = all_more (IsKept new) ns c.loop-index.index c.at.result.0 c.at.ensures (all_weaker (IsKept c.loop-index.types) (IsKept new) (still_kept c.loop-index.types new one.extends) (take c.loop-index.index ns) before.kept) one.kept;
      below = below_more items c.args.types.now c.loop-index.types new c.args.node.0 before.below c.at.result.0 here.1 one.below;
      counted = omega (arith, before.counted, one.counted);
    }

pub returns-in_err-type_node-3-clause-below : goal.returns-in_err-type_node-3-clause-below
returns-in_err-type_node-3-clause-below g t c =
    let items = c.args.arena.now in
    let depth = depth_at (shape_of (map expression_layer items)) in
    let held = layer_held items c.args.node.0 c.get-item.result.now c.get-item.ensures in
    let all = subst (AllByRecursion (λ m. DenotesTree (HoldsExpression items) m × (depth m < depth c.args.node.0))) (sym c.input_nodes-inputs.ensures) (expression_inputs items c.args.node.0 _ _ held c.requires.tree) in
    let here = all_there (λ m. DenotesTree (HoldsExpression items) m × (depth m < depth c.args.node.0)) c.input_nodes-inputs.result all c.loop-index.index c.at.result.0 c.at.ensures in
    λ n k. no_deeper items c.args.types.now c.args.node.0 n (below_more items c.args.types.now c.loop-index.types c.type_node-in-loop-index.new.types c.args.node.0 c.loop-index.invariant.below c.at.result.0 here.1 c.in_err-type_node-3.ensures.below n k)

pub type_column-requires : goal.type_column-requires
type_column-requires g t c =
    let none = none_found c.args.types.now c.args.node.0 (λ own. own.now) c.kept.result c.kept.ensures (sym c.is_some.ensures ∙ c.if-is_some.false) in
    let held = got_held c.args.arena.now c.args.node.0 c.get-item.result.now (ColumnOp c.in-Column.name) [] c.get-item.ensures (ap expression_layer c.in-Column.is) in
    record { tree = c.requires.tree; held = held; none = none }

pub returns-in-Column-clause-err : goal.returns-in-Column-clause-err
returns-in-Column-clause-err g t c =
    if_err c.type_column.result _ _ (λ error refused. refused (registry c.args.udfs.now) c.requires.right) c.type_column.ensures.err

pub type_literal-requires : goal.type_literal-requires
type_literal-requires g t c =
    let none = none_found c.args.types.now c.args.node.0 (λ own. own.now) c.kept.result c.kept.ensures (sym c.is_some.ensures ∙ c.if-is_some.false) in
    let held = got_held c.args.arena.now c.args.node.0 c.get-item.result.now (literal_op c.in-Literal.value) [] c.get-item.ensures (ap expression_layer c.in-Literal.is) in
    record { tree = c.requires.tree; held = held; none = none }

pub returns-in-Literal-clause-err : goal.returns-in-Literal-clause-err
returns-in-Literal-clause-err g t c =
    if_err c.type_literal.result _ _ (λ error refused. refused (registry c.args.udfs.now) (columns c.args.schema.now) c.requires.right) c.type_literal.ensures.err

pub type_ready-requires : goal.type_ready-requires
type_ready-requires g t c =
    let none = none_found c.args.types.now c.args.node.0 (λ own. own.now) c.kept.result c.kept.ensures (sym c.is_some.ensures ∙ c.if-is_some.false) in
    let mid = c.loop-index.types in
    record {
      tree = c.requires.tree;
      item = c.get-item.ensures;
      inputs = subst (AllByRecursion (IsKept mid)) c.input_nodes-inputs.ensures (all_ended (IsKept mid) c.input_nodes-inputs.result c.loop-index.index (omega (arith, c.loop-index-test.false, c.loop-index.auto.index-end)) c.loop-index.invariant.kept);
      none = not_yet c.args.arena.now c.args.types.now mid mid c.args.node.0 c.loop-index.invariant.below none;
      right = c.loop-index.invariant.right;
    }

pub returns-clause-extends : goal.returns-clause-extends
returns-clause-extends g t c =
    extends_then c.args.types.now c.loop-index.types c.type_ready.new.types c.loop-index.invariant.extends c.type_ready.ensures.extends

pub returns-clause-below : goal.returns-clause-below
returns-clause-below g t c =
    below_over c.args.arena.now c.args.types.now c.loop-index.types c.type_ready.new.types c.args.node.0 c.loop-index.invariant.below c.type_ready.ensures.only
