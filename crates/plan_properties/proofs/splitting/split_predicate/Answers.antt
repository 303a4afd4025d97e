use Rattle.std.proofs.Common.{◌≡◌, Some, true, false, [], ◌∷◌, ◌++◌, slice_get, ap, refl, subst, ◌∙◌, arith}
use Rattle.plan_dsl.specs.Ops.{Expression}
use Rattle.plan_dsl.specs.Properties.{permits_pushdown}
use Rattle.plan_arena.specs.Denotation.{Denotes}
use Rattle.plan_arena.specs.Items.{HoldsExpression, expression_layer, named_node}
use Rattle.plan_arena.proofs.ItemLemmas.{tree_within}
use Rattle.plan_properties.specs.Asking.{SaysOfItem}
use Rattle.plan_properties.specs.Splitting.{AddsParts, conjuncts}
use Rattle.plan_properties.proofs.AskingLemmas.{of_node, operands_denote}
use Rattle.plan_properties.proofs.PartLemmas.{is_split, stays_whole}
use Rattle.plan_properties.proofs.splitting.split_predicate.Goals as goal

pub get-requires : goal.get-requires
get-requires c = omega (arith, tree_within c.args.arena.now c.args.predicate.node.0 c.requires, c.node-node.ensures)

pub permits_filter_pushdown_rec-requires : goal.permits_filter_pushdown_rec-requires
permits_filter_pushdown_rec-requires c =
    let items = c.args.arena.now in
    let item = c.get.result.now in
    let got = subst (λ n. slice_get items n ≡ Some item) c.node-node.ensures c.get.ensures in
    operands_denote items c.args.predicate.node.0 item got c.requires

pub returns-then-permits_filter_pushdown_rec-clause-ok :
    goal.returns-then-permits_filter_pushdown_rec-clause-ok
returns-then-permits_filter_pushdown_rec-clause-ok c =
    let items = c.args.arena.now in
    let item = c.get.result.now in
    let n = c.args.predicate.node.0 in
    let got = subst (λ k. slice_get items k ≡ Some item) c.node-node.ensures c.get.ensures in
    let says = subst (SaysOfItem items (expression_layer item) permits_pushdown) c.if-permits_filter_pushdown_rec.true c.permits_filter_pushdown_rec.ensures in
    let adds = subst (λ k. (t : Expression) → Denotes (HoldsExpression items) k t → AddsParts items [] c.push_conjuncts.new.parts.items (conjuncts t)) c.node-node.ensures
    (subst (λ old. (t : Expression) → Denotes (HoldsExpression items) c.node-node.result.0 t → AddsParts items old c.push_conjuncts.new.parts.items (conjuncts t)) c.new-parts.ensures.items c.in_ok-push_conjuncts.ensures.ok) in
    is_split items (named_node c.args.predicate) c.push_conjuncts.new.parts.items (of_node items n item got permits_pushdown true says) adds

pub returns-clause-ok : goal.returns-clause-ok
returns-clause-ok c =
    let items = c.args.arena.now in
    let item = c.get.result.now in
    let n = c.args.predicate.node.0 in
    let got = subst (λ k. slice_get items k ≡ Some item) c.node-node.ensures c.get.ensures in
    let says = subst (SaysOfItem items (expression_layer item) permits_pushdown) c.if-permits_filter_pushdown_rec.false c.permits_filter_pushdown_rec.ensures in
    stays_whole items (named_node c.args.predicate) c.args.predicate c.push.new.self.items refl (c.in_ok-push.ensures.items ∙ ap (λ l. l ++ c.args.predicate ∷ []) c.new-parts.ensures.items) (of_node items n item got permits_pushdown false says)
