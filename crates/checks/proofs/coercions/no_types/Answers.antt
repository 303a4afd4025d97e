use Rattle.plan_infer.proofs.TableLemmas.{right_start}
use Rattle.checks.proofs.coercions.no_types.Goals as goal

pub returns : goal.returns
returns c = λ registry schema. right_start registry schema c.args.arena.now c.new.result c.new.ensures
