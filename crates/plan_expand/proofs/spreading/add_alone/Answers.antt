use Rattle.plan_expand.proofs.ExpansionLemmas.{added_plain, made_behind}
use Rattle.plan_expand.proofs.spreading.add_alone.Goals as goal

pub returns-clause-ok : goal.returns-clause-ok
returns-clause-ok c = made_behind c.args.expanded.now.items c.in_ok-more.more.items _ _ c.in_ok-more.ensures.ok c.in_ok-append.ensures.items

pub returns-clause-plain : goal.returns-clause-plain
returns-clause-plain c = added_plain c.args.expanded.now.items c.in_ok-more.more.items _ c.in_ok-append.ensures.items c.in_ok-more.ensures.plain
