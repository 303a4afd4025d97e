use Rattle.plan_infer.proofs.type_table.TypeTable.add.Goals as goal

pub returns-then-is_next-clause-kept : goal.returns-then-is_next-clause-kept
returns-then-is_next-clause-kept c = rw (c.is_next.ensures c.if-is_next.true) c.push_next.ensures.kept

pub returns-then-is_next-clause-only : goal.returns-then-is_next-clause-only
returns-then-is_next-clause-only c = rw (c.is_next.ensures c.if-is_next.true) c.push_next.ensures.only
