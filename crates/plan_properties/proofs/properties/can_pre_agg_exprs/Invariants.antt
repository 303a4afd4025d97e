use Rattle.std.proofs.Common.{true, take}
use Rattle.std.specs.List.{AllByRecursion}
use Rattle.plan_arena.specs.Items.{numbers_named}
use Rattle.plan_properties.specs.Asking.{SaysOfNode}
use Rattle.plan_properties.specs.Properties.{can_pre_agg}
use Rattle.plan_properties.proofs.properties.can_pre_agg_exprs.Given as goal

abbrev pub invariant-loop-expr : goal.invariant-loop-expr
invariant-loop-expr l = AllByRecursion (λ n. SaysOfNode l.arena n can_pre_agg true) (take l.expr-index (numbers_named l.exprs))
