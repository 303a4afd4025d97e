use Rattle.std.proofs.Common.{◌∷◌, ◌++◌, ap, ◌∙◌}
use Rattle.plan_arena.specs.Items.{numbers, ordering}
use Rattle.plan_arena.proofs.WindowLemmas.{front_stays}
use Rattle.plan_arena.proofs.aexpr.set_passed_window.Goals as goal

pub returns-in-Some-clause-same_keys : goal.returns-in-Some-clause-same_keys
returns-in-Some-clause-same_keys c = λ same.
    c.set_listed-in-Some.ensures.same (front_stays c.args.inputs.now c.args.keys.now.items.items c.args.function.now c.in-Some.by (same ∙ ap (λ o. c.args.function.now.0 ∷ (numbers c.args.keys.now.items.items ++ ordering o)) c.in-Some.is))
