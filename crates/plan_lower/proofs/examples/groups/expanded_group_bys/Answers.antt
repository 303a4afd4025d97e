use Rattle.std.proofs.Common.{◌∷◌, [], codes, refl}
use Rattle.plan_dsl.specs.Samples.{all}
use Rattle.plan_dsl.specs.Sources.{written}
use Rattle.plan_infer.specs.Samples.{a, columns_and, two_columns}
use Rattle.plan_lower.specs.Samples.{grouped_columns, node_named}
use Rattle.plan_lower.proofs.ExamplePlanLemmas.{expanded_groups, item_at}
use Rattle.plan_lower.proofs.GroupLemmas.{groups_work}
use Rattle.plan_lower.proofs.examples.groups.expanded_group_bys.Goals as goal

pub returns-clause-without_the_key : goal.returns-clause-without_the_key
returns-clause-without_the_key c = expanded_groups

pub returns-clause-no_key : goal.returns-clause-no_key
returns-clause-no_key c = λ has. let never = has.expanded in cc

pub returns-clause-at_a_node : goal.returns-clause-at_a_node
returns-clause-at_a_node c = λ plans is.
    groups_work [] (columns_and []) plans 1 0 two_columns grouped_columns (written a ∷ []) (all ∷ []) (node_named (codes "a") 0 ∷ []) (node_named (codes "b") 1 ∷ []) expanded_groups (item_at plans _ 1 _ is refl)
