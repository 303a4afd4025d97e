use Rattle.std.proofs.Common.{ap, ◌∙◌}
use Rattle.plan_arena.specs.Items.{numbers}
use Rattle.plan_coerce.proofs.StackLemmas.{begun_back}
use Rattle.plan_coerce.proofs.stack_opt.ConversionOptimizer.push_scratch.Goals as goal

pub returns-in-Err-clause-same_stack : goal.returns-in-Err-clause-same_stack
returns-in-Err-clause-same_stack c =
    ap numbers c.truncate.ensures.items ∙ begun_back c.args.self.now.scratch.items c.push_root.new.self.scratch.items c.len-before.result c.len-before.ensures.value c.in-Err.ensures.more
