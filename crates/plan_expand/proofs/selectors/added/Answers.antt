use Rattle.std.proofs.Common.{◌≡◌, false, sym, ◌∙◌, subst}
use Rattle.plan_types.specs.Schemas.{repeats}
use Rattle.plan_expand.proofs.NameLemmas.{put_new, put_keeps}
use Rattle.plan_expand.proofs.selectors.added.Goals as goal

pub returns-clause-ok : goal.returns-clause-ok
returns-clause-ok c = c.in_ok-append.ensures.keys ∙ put_new c.args.names.keys c.args.others.keys c.requires.others

pub returns-clause-once : goal.returns-clause-once
returns-clause-once c = subst (λ l. repeats l ≡ false) (sym c.in_ok-append.ensures.keys) (put_keeps c.args.names.keys c.args.others.keys c.requires.names)
