use Rattle.std.proofs.Common.{◌*◌, ◌+◌}
use Rattle.plan_dsl.specs.Expressions.{selector_tree, tree_of}
use Rattle.plan_dsl.specs.Trees.{tree_depth}
use Rattle.plan_expand.proofs.+names.Given as goal

abbrev pub decreases-markers::marker_names : goal.decreases-markers::marker_names
decreases-markers::marker_names l = 2 * tree_depth (tree_of l.marker.now)

abbrev pub decreases-selectors::rooted : goal.decreases-selectors::rooted
decreases-selectors::rooted l = 2 * tree_depth (tree_of l.expr.now) + 1

abbrev pub decreases-selectors::selected : goal.decreases-selectors::selected
decreases-selectors::selected l = 2 * tree_depth (selector_tree l.selector.now)
