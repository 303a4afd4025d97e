use Rattle.std.proofs.Common.{◌≡◌, List, length, Some, sym, subst}
use Rattle.plan_types.specs.declared.schema.Schema.{Schema}
use Rattle.plan_types.specs.Schemas.{columns}
use Rattle.plan_dsl.specs.Expressions.{plain_tree}
use Rattle.plan_dsl.specs.Aliases.{spelled}
use Rattle.plan_dsl.specs.Plans.{Plan}
use Rattle.plan_dsl.specs.PlanRules.{schema_of}
use Rattle.plan_dsl.specs.Registry.{Registry, registry}
use Rattle.plan_arena.specs.declared.aexpr.AExpr.{AExpr}
use Rattle.plan_arena.specs.declared.arena.Node.{Node}
use Rattle.plan_arena.specs.declared.expr_ir.ExprIR.{ExprIR}
use Rattle.plan_arena.specs.Denotation.{Denotes, DenotesTree}
use Rattle.plan_arena.specs.Items.{DenotesItem, HoldsExpression, HoldsFrom, named_node}
use Rattle.plan_arena.specs.Runs.{IsAccepted}
use Rattle.plan_arena.proofs.ItemLemmas.{any_node, item_denotes, item_inputs, plan_within}
use Rattle.checks.proofs.FilterLemmas.{over_input, over_schema}
use Rattle.checks.proofs.RootLemmas.{of_ok, on_ok, tree_added}
use Rattle.checks.proofs.checked_filters.filter_over.Goals as goal

pub get-requires : goal.get-requires
get-requires g c =
    let plan = c.args.plan in
    plan_within plan.expr_arena plan.lp_arena plan.lp_top.0 (record { tree = c.requires.tree; denotes = c.requires.denotes })

pub schema-schema-requires : goal.schema-schema-requires
schema-schema-requires g c =
    let plan = c.args.plan in
    item_inputs plan.expr_arena plan.lp_arena plan.lp_top.0 c.get.result.now c.get.ensures (record { tree = c.requires.tree; denotes = c.requires.denotes })

pub returns-clause-inputs : goal.returns-clause-inputs
returns-clause-inputs g c =
    let plan = c.args.plan in
    let items = c.to_expr_ir.new.arena in
    let e = spelled (plain_tree c.column-expr.result) in
    let predicate = c.expect-predicate.result in
    let tree = of_ok (λ (p : ExprIR). Denotes (HoldsFrom (length plan.expr_arena) items) (named_node p).expression e) c.to_expr_ir.result predicate c.expect-predicate.ensures c.to_expr_ir.ensures.denotes in
    let longer = on_ok c.add.result c.expect-node.result c.expect-node.ensures c.add.ensures.ok in
    let at = of_ok (λ (n : Node). n.0 ≡ length plan.lp_arena) c.add.result c.expect-node.result c.expect-node.ensures c.add.ensures.node in
    over_input (registry c.args.udfs.now) plan.expr_arena items plan.lp_arena c.add.new.self plan.lp_top c.expect-node.result.0 predicate c.requires.tree e c.to_expr_ir.ensures.grows longer at c.requires.denotes c.requires.accepted (any_node (length plan.expr_arena) items (named_node predicate).expression e tree)

pub returns-clause-over : goal.returns-clause-over
returns-clause-over g c =
    let plan = c.args.plan in
    let items = c.to_expr_ir.new.arena in
    let e = spelled (plain_tree c.column-expr.result) in
    let predicate = c.expect-predicate.result in
    let tree = of_ok (λ (p : ExprIR). Denotes (HoldsFrom (length plan.expr_arena) items) (named_node p).expression e) c.to_expr_ir.result predicate c.expect-predicate.ensures c.to_expr_ir.ensures.denotes in
    let longer = on_ok c.add.result c.expect-node.result c.expect-node.ensures c.add.ensures.ok in
    let at = of_ok (λ (n : Node). n.0 ≡ length plan.lp_arena) c.add.result c.expect-node.result c.expect-node.ensures c.add.ensures.node in
    let rule = of_ok (λ (s : Schema). (expressions : List AExpr) (r : Registry) (p : Plan) → DenotesItem expressions plan.lp_arena c.get.result.now p → IsAccepted r p → schema_of r p ≡ Some (columns s)) c.schema-schema.result c.expect-schema.result c.expect-schema.ensures c.schema-schema.ensures.rule in
    let item = item_denotes plan.expr_arena plan.lp_arena plan.lp_top.0 c.get.result.now c.get.ensures c.requires.tree c.requires.denotes in
    let is = rule plan.expr_arena (registry c.args.udfs.now) c.requires.tree item c.requires.accepted in
    over_schema (registry c.args.udfs.now) plan.expr_arena items plan.lp_arena c.add.new.self plan.lp_top c.expect-node.result.0 predicate c.requires.tree e c.to_expr_ir.ensures.grows longer at c.requires.denotes c.requires.accepted (any_node (length plan.expr_arena) items (named_node predicate).expression e tree) (columns c.expect-schema.result) is

pub returns-clause-tree : goal.returns-clause-tree
returns-clause-tree g c =
    let first = length c.args.plan.expr_arena in
    let items = c.to_expr_ir.new.arena in
    let e = spelled (plain_tree c.column-expr.result) in
    let predicate = c.expect-predicate.result in
    let tree = of_ok (λ (p : ExprIR). Denotes (HoldsFrom first items) (named_node p).expression e) c.to_expr_ir.result predicate c.expect-predicate.ensures c.to_expr_ir.ensures.denotes in
    subst (DenotesTree (HoldsExpression items)) (sym c.node-root.ensures) (tree_added first items (named_node predicate).expression e tree)
