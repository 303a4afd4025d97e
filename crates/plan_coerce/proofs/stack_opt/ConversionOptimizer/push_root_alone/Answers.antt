use Rattle.plan_coerce.proofs.StackLemmas.{pushed_one}
use Rattle.plan_coerce.proofs.stack_opt.ConversionOptimizer.push_root_alone.Goals as goal

pub returns-clause-roots : goal.returns-clause-roots
returns-clause-roots c = pushed_one c.args.self.now.roots.items c.push.new.self.items c.args.node c.in_ok-push.ensures.ok
