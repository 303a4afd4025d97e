use Rattle.std.proofs.Common.{ap, subst}
use Rattle.plan_types.specs.Types.{Truth, same_type, ty}
use Rattle.plan_coerce.specs.ToldCasts.{IsToldBy}
use Rattle.plan_coerce.proofs.ToldLemmas.{cast_leads, literal_stays, literal_told, logical_stays, neither_stays, none_said, other_type}
use Rattle.plan_coerce.proofs.TurnLemmas.{some_said}
use Rattle.plan_coerce.proofs.cast_inlining.cast_of.Goals as goal

pub returns-in-Neither-clause-ok : goal.returns-in-Neither-clause-ok
returns-in-Neither-clause-ok c = λ registry schema items n k x typed held h told.
    neither_stays registry schema (ty c.args.dtype.now) c.args.options x typed h (subst (IsToldBy registry schema items k x) c.in-Neither.is told)

pub returns-in-Boolean-clause-ok : goal.returns-in-Boolean-clause-ok
returns-in-Boolean-clause-ok c = λ registry schema items n k x typed held h told.
    cast_leads registry schema (ty c.args.dtype.now) c.args.options x typed h items n k c.in-Logical.node.0 held (ap (λ d. same_type Truth (ty d)) c.in-Boolean.is) (subst (IsToldBy registry schema items k x) c.in-Logical.is told)

pub returns-in_default : goal.returns-in_default
returns-in_default c = record {
  ok = λ registry schema items n k x typed held h told.
      let l = subst (IsToldBy registry schema items k x) c.in-Logical.is told in
      logical_stays registry schema (ty c.args.dtype.now) c.args.options x typed h l.operator l.operands l.is (other_type c.args.dtype.now c.in_default.not-Boolean);
  err = tt;
}

pub returns-in-None-clause-ok : goal.returns-in-None-clause-ok
returns-in-None-clause-ok c = λ registry schema items n k x typed held h told.
    literal_stays registry schema (ty c.args.dtype.now) c.args.options x typed h c.in-Literal.value c.settle.new.self (subst (IsToldBy registry schema items k x) c.in-Literal.is told) c.settle.ensures (none_said _ _ c.in_ok-literal_cast-in-Literal.field-0 c.in-None.is c.in_ok-literal_cast-in-Literal.ensures.ok)

pub returns-in-Some-clause-ok : goal.returns-in-Some-clause-ok
returns-in-Some-clause-ok c = λ registry schema items n k x typed held h told.
    literal_told registry schema (ty c.args.dtype.now) c.args.options x typed h c.in-Literal.value c.settle.new.self c.in-Some.made (subst (IsToldBy registry schema items k x) c.in-Literal.is told) c.settle.ensures (some_said _ _ c.in_ok-literal_cast-in-Literal.field-0 c.in-Some.made c.in-Some.is c.in_ok-literal_cast-in-Literal.ensures.ok)
