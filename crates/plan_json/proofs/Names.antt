-- The names that most proofs of this crate cite, passed on from one place. Declares nothing.
pub use Rattle.std.proofs.Common.{Bool, Err, FitsSigned, Global, List, None, Ok, Option, Result, Some, String, Vec, [], ap, arith, bytes_eq, codes, cond, drop, false, get_or, is_some, length, length-append, map, max, nat_lt, ne_eqb, not, option_and_then, option_map, position, refl, rules, slice_get, slice_index, string_bytes, subst, suc, sym, take, true, zero, ℕ, ℤ, ◌&&◌, ◌*◌, ◌++◌, ◌+◌, ◌<◌, ◌==◌, ◌^◌, ◌||◌, ◌∙◌, ◌∷◌, ◌≡◌, ◌≤◌, Box, negsuc, pos}
pub use Rattle.plan_json.specs.Faults.{an_excluded, excluded_form, excluded_key_form, leaf_form, BadFloat, BadName, BadShape, FaultKind, Form, IsBadAt, Part, Path, Step, a_column, a_counted_type, a_new_name, a_number_of, a_plan, a_query, a_scan, a_table, a_text, a_type, a_typed_literal, asked_form, column_list, column_part, declared_names, either_part, fault_at, field_list, has_shape, has_type_shape, items_of, key, key_form, keyed_form, keyed_part, list_of, may_be_counted, name_fault, number, own_fault, part, part_if, part_of, places_form, query_part, shape_fault, table_item, table_list, table_part, type_form, type_key_form, typed_part, unless}
pub use Rattle.plan_json.specs.Looking.{all_of, both, first_items, is_float, only_member, some_of, three_items, two_items, two_members, whole_number}
pub use Rattle.serde_json.specs.View.{items_view, members_view, view}
pub use Rattle.plan_types.specs.Schemas.{Columns, Name, columns, is_among, names_of, repeats, same_name, type_at}
pub use Rattle.serde_json.specs.Data.{Data, Items, Members, Num, array, depth, float, item, items_depth, member, negative, no_items, no_members, object, string, unsigned, number as numeral}
pub use Rattle.plan_json.specs.Tables.{Declared, declared, table_entry}
pub use Rattle.plan_json.specs.Leaves.{column_name, column_of, columns_from, columns_of, counted, counted_of, each_column, keyed_type, literal_of, mode_of, narrow, number_of, number_text_of, number_written, operator_of, struct_of, table_at, table_limit, table_name, table_of, tables_from, tables_of, text_of, type_of, type_says, typed_from, typed_of, typed_op, unit_of}
pub use Rattle.serde_json.specs.Find.{as_array, as_i64, as_null, as_object, as_u64, at, get, get_item, get_member}
pub use Rattle.plan_json.specs.Forms.{AllFit, Asked, Fits, Places, Read, a_form, all_fit, asked_in, asks, columns_read, expression, expression_read, expression_rows, expressions_in, fits, flag_read, flags_in, key_named, leaf, leaves_read, list_read, listed, literal_read, many, many_read, mode_read, name_read, nothing_read, operator_read, place_view, places_view, plan_rows, reads_of, row_named, says, single, table_read, type_read, type_rows, expression_says, plan as plan_asked}
pub use Rattle.plan_json.specs.Queries.{IsItem, IsQueryOf, QueryModel, each_as, front, has_flags, leaf_of, list_as, places_as, plan_in, plan_of, query_from, query_of, read_as, these_as}
pub use Rattle.std.specs.Option.{option_map_or}
pub use Rattle.plan_types.specs.Types.{DatetimeType, DurationType, Integer, ListType, StructType, Ty, field_of, fields_from, is_counted, ty, fields_of as row_of}
pub use Rattle.plan_json.specs.Errors.{IsBadAtPointer, IsBelow, IsErrorOf, IsOwn, escaped, pointer_text, step_text}
pub use Rattle.serde_json.specs.declared.value.Value.{Value}
pub use Rattle.serde_json.proofs.Views.{get_item_within, items_len-items_view, members_len-members_view}
pub use Rattle.std.proofs.lemmas.Bool.{and_from, and_parts, eq-eqb, false_from_ne_true, lt-ltb, ltb-true, or_parts, not-true}
pub use Rattle.std.proofs.lemmas.List.{length-map, map-append, take_all, take_more}
pub use Rattle.std.specs.Int.{w128}
pub use Rattle.std.proofs.lemmas.Int.{ints, to_z-of_z}
pub use Rattle.plan_json.specs.declared.error.JsonError.{JsonError}
pub use Rattle.serde_json.specs.Events.{items_len, members_len}
pub use Rattle.plan_types.proofs.NameLemmas.{repeats-again, repeats-apart, repeats-push}
pub use Rattle.plan_json.specs.Samples.{Each, NoJson, Refused, Writes, error_of}
pub use Rattle.plan_types.proofs.DigitLemmas.{no_number_read, read_fits, read_number}
pub use Rattle.plan_dsl.specs.Ops.{LiteralOp, SortByOp}
pub use Rattle.std.proofs.lemmas.Slice.Eq.{bytes_eq-Decides}
pub use Rattle.plan_json.specs.declared.forms.Kind.{Kind}
pub use Rattle.plan_json.specs.declared.forms.Key.{Key}
pub use Rattle.plan_json.specs.declared.error.JsonError.TheVariants.{Float, NoMemory, NotJson, Shape, Name as Name'}
pub use Rattle.plan_json.specs.Bytes.{IsRefusalOf, IsTextOf, WritesQuery}
pub use Rattle.plan_json.specs.declared.forms.TypeKey.{TypeKey}
pub use Rattle.std.specs.Str.{IsUtf8, chars, is_utf8}
pub use Rattle.plan_types.proofs.SchemaLemmas.{IsNewName-test, is_among-type_at, with_column-new}
pub use Rattle.plan_dsl.specs.Expressions.{tree_of, trees_of}
pub use Rattle.std.proofs.lemmas.Option.{none-some, same_Some, slice_get-get_or, slice_get-map}
