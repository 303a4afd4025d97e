use Rattle.std.proofs.Common.{◌≡◌, map, drop}
use Rattle.plan_types.specs.Schemas.{columns}
use Rattle.plan_dsl.specs.Markers.{names_of_selectors}
use Rattle.plan_dsl.specs.Expressions.{selector_tree}
use Rattle.plan_expand.proofs.NameLemmas.{gathered}
use Rattle.plan_expand.proofs.selectors.all_selected.Given as goal

abbrev pub invariant-loop-selector : goal.invariant-loop-selector
invariant-loop-selector l =
    names_of_selectors (columns l.schema) (map selector_tree l.selectors) ≡ gathered (columns l.schema) l.names.keys (map selector_tree (drop l.selector-index l.selectors))
