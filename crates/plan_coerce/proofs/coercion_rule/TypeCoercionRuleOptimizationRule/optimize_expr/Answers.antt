use Rattle.std.proofs.Common.{inl}
use Rattle.std.proofs.lemmas.Bool.{and_from}
use Rattle.plan_types.specs.Schemas.{columns}
use Rattle.plan_dsl.specs.Coercion.{coerced}
use Rattle.plan_dsl.specs.InlinedCasts.{stays}
use Rattle.plan_dsl.specs.Registry.{registry}
use Rattle.plan_infer.specs.KeptTypes.{typed_of}
use Rattle.plan_infer.proofs.TableLemmas.{extends_itself, kept_typing, right_start}
use Rattle.plan_coerce.specs.Rules.{is_settled, is_strict_node, said}
use Rattle.plan_coerce.proofs.CoercionRuleLemmas.{answer_keeps, answer_right, answer_with, item_there, kept_strict, known_not_number}
use Rattle.plan_coerce.proofs.SettledLemmas.{settled_no_number}
use Rattle.plan_coerce.proofs.ToldLemmas.{none_said}
use Rattle.plan_coerce.proofs.coercion_rule.TypeCoercionRuleOptimizationRule.optimize_expr.Goals as goal

pub returns-in-Ok-clause-numbers : goal.returns-in-Ok-clause-numbers
returns-in-Ok-clause-numbers g c = λ t typed some d is unknown. settled_no_number (registry c.args.udfs.now) (columns c.args.schema.now)

pub returns-in-Err-clause-right : goal.returns-in-Err-clause-right
returns-in-Err-clause-right g c =
    right_start (registry c.args.udfs.now) (columns c.args.schema.now) c.replacement.new.arena c.clear.new.self c.clear.ensures

pub returns-then-not-may_go-clause-answer : goal.returns-then-not-may_go-clause-answer
returns-then-not-may_go-clause-answer g c = λ t d.
    let registry = registry c.args.udfs.now in
    let schema = columns c.args.schema.now in
    let items = c.args.expr_arena.now in
    let types = c.args.types.now in
    let n = c.args.node.0 in
    let kept = c.is_settled.ensures.kept c.if-is_settled.true in
    let known = known_not_number registry schema items types c.requires.right n kept.0 kept.1 kept.3 in
    let item = item_there items n t d in
    let strict = kept_strict registry schema items types c.requires.right n kept.0 kept.1 item.0 item.1 kept.2 known t d in
    let typed = kept_typing registry schema items types c.requires.right n kept.0 kept.1 t d in
    and_from (said (is_strict_node registry schema) registry schema t) (stays (coerced registry schema t)) strict (c.may_go.ensures c.if-not-may_go.true registry schema t (typed_of kept.0) d typed)

pub returns-then-not-may_go-clause-kept : goal.returns-then-not-may_go-clause-kept
returns-then-not-may_go-clause-kept g c = inl (extends_itself c.args.types.now)

pub returns-in-Ok-clause-answer : goal.returns-in-Ok-clause-answer
returns-in-Ok-clause-answer g c = λ t d.
    let r = registry c.args.udfs.now in
    let s = columns c.args.schema.now in
    let right = c.infer_once.ensures.right in
    answer_with _ _ _ _ c.in-Ok.answer c.in-Ok.ensures.answer (λ stays. stays.is r s t right d) (λ item can. can.answer r s t right d)

pub returns-in-Ok-clause-reaches : goal.returns-in-Ok-clause-reaches
returns-in-Ok-clause-reaches g c = answer_with _ _ _ _ c.in-Ok.answer c.in-Ok.ensures.answer (λ stays. tt) (λ item can n turns. can.reaches)

pub returns-in-Ok-clause-once : goal.returns-in-Ok-clause-once
returns-in-Ok-clause-once g c = answer_with _ _ _ _ c.in-Ok.answer c.in-Ok.ensures.answer (λ stays. tt) (λ item can n turns. can.once)

pub returns-in-Ok-clause-same : goal.returns-in-Ok-clause-same
returns-in-Ok-clause-same g c = λ none.
    let stays = none_said _ _ c.in-Ok.answer none c.in-Ok.ensures.answer in
    stays.same

pub returns-in-Ok-clause-kept : goal.returns-in-Ok-clause-kept
returns-in-Ok-clause-kept g c =
    answer_keeps is_settled c.args.expr_arena.now c.replacement.new.arena c.infer_once.new.types c.replacement.new.types c.args.node.0 c.args.types.now c.infer_once.ensures.extends c.in-Ok.answer c.in-Ok.ensures.answer

pub returns-in-Ok-clause-right : goal.returns-in-Ok-clause-right
returns-in-Ok-clause-right g c =
    answer_right is_settled c.args.expr_arena.now c.replacement.new.arena c.infer_once.new.types c.replacement.new.types c.args.node.0 c.in-Ok.answer c.in-Ok.ensures.answer (registry c.args.udfs.now) (columns c.args.schema.now) c.infer_once.ensures.right

pub returns-in-Ok-clause-placed : goal.returns-in-Ok-clause-placed
returns-in-Ok-clause-placed g c =
    answer_with _ _ _ _ c.in-Ok.answer c.in-Ok.ensures.answer (λ stays. tt) (λ item can number. can.placed (registry c.args.udfs.now) (columns c.args.schema.now) c.infer_once.ensures.right number)
