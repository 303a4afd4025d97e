use Rattle.plan_coerce.proofs.uncounted.coerce_by.Goals as goal

pub returns-clause-leaves : goal.returns-clause-leaves
returns-clause-leaves g c = (_, _, c.coerce_expressions.ensures.leaves)
