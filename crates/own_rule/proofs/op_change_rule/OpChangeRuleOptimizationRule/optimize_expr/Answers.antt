use Rattle.std.proofs.Common.{sym, ◌∙◌}
use Rattle.std.proofs.lemmas.Bool.{false≢true}
use Rattle.std.proofs.lemmas.Result.{IfOk-weaker}
use Rattle.plan_types.specs.Schemas.{columns}
use Rattle.plan_dsl.specs.Registry.{registry}
use Rattle.plan_arena.proofs.ItemLemmas.{tree_within}
use Rattle.own_rule.proofs.ChangedOpLemmas.{answered, closed_by, inputs_kept, none_unknown, once_by, other_stays, placed_by}
use Rattle.own_rule.proofs.op_change_rule.OpChangeRuleOptimizationRule.optimize_expr.Goals as goal

pub get-requires : goal.get-requires
get-requires g c = tree_within c.args.expr_arena.now c.args.node.0 c.requires.tree

pub get-requires-2 : goal.get-requires-2
get-requires-2 g c = tree_within c.args.expr_arena.now c.args.node.0 c.requires.tree

pub returns-then-not-concerns-clause-answer : goal.returns-then-not-concerns-clause-answer
returns-then-not-concerns-clause-answer g c =
    other_stays (g.C.OpChange.finds c.args.self.now.0) (registry c.args.udfs.now) (columns c.args.schema.now) c.args.expr_arena.now c.args.node.0 c.get.result.now c.get.ensures (c.concerns.ensures c.if-not-concerns.true)

pub in_place_of-requires : goal.in_place_of-requires
in_place_of-requires g c = inputs_kept (g.C.OpChange.finds c.args.self.now.0) (g.C.OpChange.change c.args.self.now.0) c.get-2.ensures c.in_ok-field_of.ensures.right c.in_ok-field_of.ensures.kept

pub returns-clause-answer : goal.returns-clause-answer
returns-clause-answer g c =
    IfOk-weaker c.in_place_of.result _ _ (answered (g.C.OpChange.finds c.args.self.now.0) (g.C.OpChange.change c.args.self.now.0) c.get-2.ensures c.in_ok-field_of.ensures.right c.in_ok-field_of.ensures.kept) c.in_place_of.ensures.ok

pub returns-clause-numbers : goal.returns-clause-numbers
returns-clause-numbers g c =
    let known = none_unknown (g.C.OpChange.finds c.args.self.now.0) (g.C.OpChange.change c.args.self.now.0) c.get-2.ensures c.in_ok-field_of.ensures.right c.in_ok-field_of.ensures.kept in
    IfOk-weaker c.in_place_of.result _ _ (λ answer h t typed some d is unknown. absurd (false≢true (sym unknown ∙ known answer h some t typed d is))) c.in_place_of.ensures.ok

pub returns-clause-reaches : goal.returns-clause-reaches
returns-clause-reaches g c =
    IfOk-weaker c.in_place_of.result _ _ (closed_by (g.C.OpChange.finds c.args.self.now.0) (g.C.OpChange.change c.args.self.now.0) c.get-2.ensures c.in_ok-field_of.ensures.right c.in_ok-field_of.ensures.kept) c.in_place_of.ensures.ok

pub returns-clause-once : goal.returns-clause-once
returns-clause-once g c =
    IfOk-weaker c.in_place_of.result _ _ (once_by (g.C.OpChange.finds c.args.self.now.0) (g.C.OpChange.change c.args.self.now.0) c.get-2.ensures c.in_ok-field_of.ensures.right c.in_ok-field_of.ensures.kept) c.in_place_of.ensures.ok

pub returns-clause-placed : goal.returns-clause-placed
returns-clause-placed g c =
    IfOk-weaker c.in_place_of.result _ _ (placed_by (g.C.OpChange.finds c.args.self.now.0) (g.C.OpChange.change c.args.self.now.0) c.get-2.ensures c.in_ok-field_of.ensures.right c.in_ok-field_of.ensures.kept) c.in_place_of.ensures.ok
