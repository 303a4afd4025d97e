use Rattle.plan_dsl.specs.Registry.{registry}
use Rattle.explain.proofs.VerdictLemmas.{refusal_told}
use Rattle.explain.proofs.check.check.Goals as goal

pub returns-in_ok-detail-in-Err : goal.returns-in_ok-detail-in-Err
returns-in_ok-detail-in-Err c =
    refusal_told (registry c.args.udfs.now) c.args.text.now _ c.in-Err.refusal c.in-Err.ensures.err c.in_ok-words-in-Err.ensures
