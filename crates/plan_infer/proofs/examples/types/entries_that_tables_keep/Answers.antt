use Rattle.std.proofs.Common.{refl, arith}
use Rattle.plan_infer.proofs.examples.types.entries_that_tables_keep.Goals as goal

pub returns-clause-kept : goal.returns-clause-kept
returns-clause-kept c = λ own n d m o table first entries. rw (first, entries) (omega arith, refl)

pub returns-clause-its_type : goal.returns-clause-its_type
returns-clause-its_type c = λ own n d m o table first entries. record { own = own; keeps = rw (first, entries) (omega arith, refl); is = d }
