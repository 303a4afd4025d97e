use Rattle.plan_dsl.proofs.GroupLemmas.{each_is_in_one_group, items_go_to_the_end, same_keys_are_one}
use Rattle.plan_dsl.proofs.laws.group_laws.Goals as goal

pub returns : goal.returns
returns c = record { same = same_keys_are_one; one_group = (each_is_in_one_group, each_is_in_one_group); order = (items_go_to_the_end, items_go_to_the_end) }
