use Rattle.std.proofs.Common.{◌≡◌, map, take}
use Rattle.plan_dsl.specs.Expressions.{selector_tree}
use Rattle.plan_dsl.proofs.selector.Selectors.try_clone.Given as goal

abbrev pub invariant-loop-selector : goal.invariant-loop-selector
invariant-loop-selector l = map selector_tree l.items.items ≡ map selector_tree (take l.selector-index l.selector-items)
