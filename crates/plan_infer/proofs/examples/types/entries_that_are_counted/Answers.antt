use Rattle.std.proofs.Common.{ap}
use Rattle.plan_infer.specs.KeptTypes.{some_count}
use Rattle.plan_infer.proofs.examples.types.entries_that_are_counted.Goals as goal

pub returns-clause-two : goal.returns-clause-two
returns-clause-two c = λ own n d m o table first entries. ap some_count entries

pub returns-clause-none : goal.returns-clause-none
returns-clause-none c = λ table first entries. ap some_count entries
