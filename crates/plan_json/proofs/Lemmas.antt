-- The lemmas that answers cite, passed on from one place, and sets that functions name in place of answers.
pub use Rattle.plan_json.proofs.DeclarationLemmas.{type_by_key, struct_all, is_some-table_at, tables_too_many, tables_all, table_next, declared_names-read, columns_all, column_repeated, is_among-entries, table_at-some, table_at-none, declared-insert}
pub use Rattle.plan_json.proofs.FaultLemmas.{part_in, item_in, key_in, IsErrorOf-own, name_error, name_fault-tested}
pub use Rattle.plan_json.proofs.FormLemmas.{form_read, key_part, item_part_at, other_count, each_read}
pub use Rattle.plan_json.proofs.ItemLemmas.{all_of-more, all_taken, all_of-mapped, names_apart}
pub use Rattle.plan_json.proofs.LiteralLemmas.{other_kind, number_place}
pub use Rattle.plan_json.proofs.LookingLemmas.{depth-item, array-from_as_array, of_object, of_array, one_entry, other_entries, two_members-two, two_members-other, none_second, two_others, three_others, depth-only_member, depth-two_items}

-- the tables' map
pub ruleset of_tables = (is_among-entries, table_at-some, table_at-none, declared-insert)

-- objects of one or two members, and lists of two
pub ruleset looking = (of_object, of_array, one_entry, other_entries, two_members-two, two_members-other, none_second, two_others, three_others)

-- one more item of a list is read
pub ruleset growing = (all_of-more, all_taken)

-- parts are less deep
pub ruleset less_deep = (depth-only_member, depth-item)

-- a value is the list that it was found to be
pub ruleset listing = (of_array, array-from_as_array)
