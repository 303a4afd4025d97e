use Rattle.plan_dsl.specs.Registry.{registry}
use Rattle.query_run.proofs.TextLemmas.{ended_without_memory}
use Rattle.query_run.proofs.text.told_of.Goals as goal

pub returns-in_default-clause-ended : goal.returns-in_default-clause-ended
returns-in_default-clause-ended c =
    ended_without_memory (registry c.args.udfs.now) c.args.query.now c.no_memory.result.text.items c.no_memory.result.done c.no_memory.ensures.done c.no_memory.ensures.text

pub returns-then-is_write_fault-clause-ended : goal.returns-then-is_write_fault-clause-ended
returns-then-is_write_fault-clause-ended c =
    ended_without_memory (registry c.args.udfs.now) c.args.query.now c.no_memory-then-is_write_fault.result.text.items c.no_memory-then-is_write_fault.result.done c.no_memory-then-is_write_fault.ensures.done c.no_memory-then-is_write_fault.ensures.text
