use Rattle.table_functions.proofs.TextLemmas.{list_pushed, struct_pushed, text_pushed, value_more}
use Rattle.table_functions.proofs.texts.+value_texts.Goals as goal

pub push_value-returns-in-Text : goal.push_value-returns-in-Text
push_value-returns-in-Text t c =
    text_pushed c.push_str-in-Text.result c.args.value.now c.in-Text.own c.as_str.result.now _ _ c.in-Text.is c.as_str.ensures c.as_str.utf8 c.push_str-in-Text.ensures.bytes

pub push_value-returns-in_ok-push_values-in-List : goal.push_value-returns-in_ok-push_values-in-List
push_value-returns-in_ok-push_values-in-List t c =
    list_pushed c.push_str-in-List-2.result c.args.value.now c.in-List.items c.as_slice.result.now _ _ _ _ c.in-List.is c.as_slice.ensures.value c.in_ok-push_str-in-List.ensures.bytes c.in_ok-push_values-in-List.ensures c.push_str-in-List-2.ensures.bytes

pub push_value-returns-in_ok-push_values-in-Struct : goal.push_value-returns-in_ok-push_values-in-Struct
push_value-returns-in_ok-push_values-in-Struct t c =
    struct_pushed c.push_str-in-Struct-2.result c.args.value.now c.in-Struct.parts c.as_slice-in-Struct.result.now _ _ _ _ c.in-Struct.is c.as_slice-in-Struct.ensures.value c.in_ok-push_str-in-Struct.ensures.bytes c.in_ok-push_values-in-Struct.ensures c.push_str-in-Struct-2.ensures.bytes

pub push_values-loop-value-preserved : goal.push_values-loop-value-preserved
push_values-loop-value-preserved t c =
    value_more c.args.values.now c.loop-value.value-index c.value-item.result _ _ _ _ c.loop-value-test.true c.value-item.is c.loop-value.invariant c.in_ok-push_str.ensures.bytes c.in_ok-push_value.ensures
