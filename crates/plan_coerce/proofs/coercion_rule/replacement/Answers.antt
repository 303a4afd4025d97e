use Rattle.std.proofs.Common.{sym, subst}
use Rattle.plan_arena.specs.Denotation.{Denotes}
use Rattle.plan_arena.specs.Items.{HoldsExpression}
use Rattle.plan_infer.specs.KeptTypes.{HasRightTypes, IsKept, IsRight}
use Rattle.plan_infer.proofs.TypingLemmas.{if_ok}
use Rattle.plan_coerce.proofs.CoercionRuleLemmas.{settled_answer}
use Rattle.plan_coerce.proofs.ToldLemmas.{none_said}
use Rattle.plan_coerce.proofs.TurnLemmas.{some_said}
use Rattle.plan_coerce.proofs.coercion_rule.replacement.Goals as goal

pub in_place_of-requires : goal.in_place_of-requires
in_place_of-requires c =
    let n = c.args.node.0 in
    let strict = none_said _ _ c.in_ok-item.field-0 c.in-None.is c.in_ok-item.ensures.answer in
    record {
      right = subst (λ items. HasRightTypes items c.item_for.new.types) (sym strict.same) (subst (HasRightTypes c.args.arena.now) (sym strict.keeps) c.requires.right);
      kept = subst (λ table. IsKept table n) (sym strict.keeps) c.requires.kept;
      strict = λ registry schema t right d. strict.is registry schema t
          (subst (λ items. IsRight registry schema items c.args.types.now) strict.same (subst (IsRight registry schema c.item_for.new.arena) strict.keeps right))
          (subst (λ items. Denotes (HoldsExpression items) n t) strict.same d);
    }

pub returns-in-Some-clause-answer : goal.returns-in-Some-clause-answer
returns-in-Some-clause-answer c = some_said _ _ c.in_ok-item.field-0 c.in-Some.item c.in-Some.is c.in_ok-item.ensures.answer

pub returns-in-None-clause-answer : goal.returns-in-None-clause-answer
returns-in-None-clause-answer c =
    let strict = none_said _ _ c.in_ok-item.field-0 c.in-None.is c.in_ok-item.ensures.answer in
    if_ok c.in_place_of.result _ _ (λ answer. settled_answer c.args.arena.now c.item_for.new.arena c.args.types.now c.item_for.new.types c.in_place_of.new.types c.args.node.0 answer strict) c.in_place_of.ensures.answer
