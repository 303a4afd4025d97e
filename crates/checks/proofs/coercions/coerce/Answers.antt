use Rattle.checks.proofs.coercions.coerce.Goals as goal

pub returns-clause-finite : goal.returns-clause-finite
returns-clause-finite g c = c.coerce_uncounted.ensures.leaves.2.finite

pub returns-clause-right : goal.returns-clause-right
returns-clause-right g c = c.coerce_uncounted.ensures.leaves.2.right
