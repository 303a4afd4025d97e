use Rattle.std.proofs.Common.{sym, subst}
use Rattle.plan_dsl.specs.Properties.{is_elementwise}
use Rattle.plan_properties.specs.Asking.{AllDenote, SaysOfAll}
use Rattle.plan_properties.proofs.properties.all_elementwise.Goals as goal

pub holds_of_all-requires : goal.holds_of_all-requires
holds_of_all-requires c = subst (AllDenote c.args.arena.now) (sym c.of_exprs.ensures) c.requires

pub returns : goal.returns
returns c = subst (λ ns. SaysOfAll c.args.arena.now ns is_elementwise c.holds_of_all.result) c.of_exprs.ensures c.holds_of_all.ensures
