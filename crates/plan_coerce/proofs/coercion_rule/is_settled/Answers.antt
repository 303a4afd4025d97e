use Rattle.plan_types.specs.Types.{ty}
use Rattle.plan_coerce.proofs.CoercionRuleLemmas.{no_number}
use Rattle.plan_coerce.proofs.coercion_rule.is_settled.Goals as goal

pub returns-then-is_strict-clause-kept : goal.returns-then-is_strict-clause-kept
returns-then-is_strict-clause-kept c = λ told.
    let own = c.in-Some.own.now in
    (own, c.in-Some.ensures, c.is_strict.ensures.0 c.if-is_strict.true, no_number c.untyped_number.result c.is_none.result (ty own.dtype) c.is_none.ensures told c.untyped_number.ensures)
