use Rattle.std.proofs.Common.{◌&&◌, refl, sym, ap, subst, ◌∙◌, [], ◌∷◌, Ok}
use Rattle.std.specs.List.{AllByRecursion}
use Rattle.plan_types.specs.Types.{is_truth}
use Rattle.plan_dsl.specs.Ops.{BinaryOp}
use Rattle.plan_dsl.specs.declared.operator.Operator.TheVariants.{And, LogicalAnd}
use Rattle.plan_arena.specs.declared.aexpr.AExpr.TheVariants.{BinaryExpr}
use Rattle.plan_arena.specs.Items.{expression_layer}
use Rattle.plan_arena.specs.Layers.{inputs_of, op_of}
use Rattle.plan_infer.specs.KeptTypes.{IsKept, typed_of}
use Rattle.own_rule.specs.PlainAnds.{is_of_truths, plain_op}
use Rattle.own_rule.proofs.AndLemmas.{no_and, one_false, truths_changed}
use Rattle.own_rule.proofs.ChangedOpLemmas.{changes_so, stays_so}
use Rattle.own_rule.proofs.plain_ands.PlainAndsOpChange.in_place_of.Goals as goal

pub get-requires : goal.get-requires
get-requires c = (subst (λ l. AllByRecursion (IsKept c.args.types.now) (inputs_of l)) c.in-Some.ensures c.requires).0

pub get-requires-2 : goal.get-requires-2
get-requires-2 c = (subst (λ l. AllByRecursion (IsKept c.args.types.now) (inputs_of l)) c.in-Some.ensures c.requires).1.0

pub returns-in_default-clause-ok : goal.returns-in_default-clause-ok
returns-in_default-clause-ok c = λ typed kept. no_and (op_of (expression_layer c.args.item.now)) (Ok typed) c.in_default.ensures

pub returns-then-not-is_truth-clause-ok : goal.returns-then-not-is_truth-clause-ok
returns-then-not-is_truth-clause-ok c =
    let own = c.get.result.now in
    let other : IsKept c.args.types.now c.in-Some.right.0 = (subst (λ l. AllByRecursion (IsKept c.args.types.now) (inputs_of l)) c.in-Some.ensures c.requires).1.0 in
    stays_so is_of_truths plain_op c.args.types.now c.args.item.now (BinaryOp LogicalAnd) (c.in-Some.left.0 ∷ c.in-Some.right.0 ∷ []) (typed_of own ∷ typed_of other.own ∷ []) c.in-Some.ensures
    (record { own = own; keeps = c.get.ensures; is = refl }, (record { own = other.own; keeps = other.keeps; is = refl }, tt))
    (ap (λ b. b && is_truth (typed_of other.own).type) (sym c.is_truth.ensures ∙ c.if-not-is_truth.true))

pub returns-then-not-is_truth-2-clause-ok : goal.returns-then-not-is_truth-2-clause-ok
returns-then-not-is_truth-2-clause-ok c =
    let own = c.get.result.now in
    let other = c.get-2.result.now in
    stays_so is_of_truths plain_op c.args.types.now c.args.item.now (BinaryOp LogicalAnd) (c.in-Some.left.0 ∷ c.in-Some.right.0 ∷ []) (typed_of own ∷ typed_of other ∷ []) c.in-Some.ensures
    (record { own = own; keeps = c.get.ensures; is = refl }, (record { own = other; keeps = c.get-2.ensures; is = refl }, tt))
    (one_false (is_truth (typed_of own).type) _ (sym c.is_truth-2.ensures ∙ c.if-not-is_truth-2.true))

pub returns-clause-ok : goal.returns-clause-ok
returns-clause-ok c =
    let own = c.get.result.now in
    let other = c.get-2.result.now in
    changes_so is_of_truths plain_op c.args.types.now c.args.item.now (BinaryOp LogicalAnd) (c.in-Some.left.0 ∷ c.in-Some.right.0 ∷ []) (typed_of own ∷ typed_of other ∷ []) c.in-Some.ensures
    (record { own = own; keeps = c.get.ensures; is = refl }, (record { own = other; keeps = c.get-2.ensures; is = refl }, tt))
    (BinaryOp And) (BinaryExpr c.in-Some.left And c.in-Some.right) refl
    (truths_changed (typed_of own) (typed_of other) (sym c.is_truth.ensures ∙ c.if-not-is_truth.false) (sym c.is_truth-2.ensures ∙ c.if-not-is_truth-2.false))
