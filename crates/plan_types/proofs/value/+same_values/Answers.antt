use Rattle.std.proofs.Common.{sym, ap, ◌∙◌}
use Rattle.plan_types.specs.Values.{same_value}
use Rattle.plan_types.specs.ValueViews.{val_of}
use Rattle.plan_types.proofs.SameValueLemmas.{null_apart, truth_apart, number_apart, text_apart, lists_compared, structs_compared, values_apart}
use Rattle.plan_types.proofs.value.+same_values.Goals as goal

pub Value::is_same-returns-in_default : goal.Value::is_same-returns-in_default
Value::is_same-returns-in_default t c =
    null_apart c.args.other.now c.in_default.not-Null ∙ ap (λ v. same_value (val_of v) (val_of c.args.other.now)) (sym c.in-Null.is)

pub Value::is_same-returns-in_default-other : goal.Value::is_same-returns-in_default-other
Value::is_same-returns-in_default-other t c =
    truth_apart c.in-Boolean.truth c.args.other.now c.in_default-other.not-Boolean ∙ ap (λ v. same_value (val_of v) (val_of c.args.other.now)) (sym c.in-Boolean.is)

pub Value::is_same-returns-in_default-other-2 : goal.Value::is_same-returns-in_default-other-2
Value::is_same-returns-in_default-other-2 t c =
    number_apart c.in-Int.number c.args.other.now c.in_default-other-2.not-Int ∙ ap (λ v. same_value (val_of v) (val_of c.args.other.now)) (sym c.in-Int.is)

pub Value::is_same-returns-in_default-other-3 : goal.Value::is_same-returns-in_default-other-3
Value::is_same-returns-in_default-other-3 t c =
    text_apart c.in-Text.text c.args.other.now c.in_default-other-3.not-Text ∙ ap (λ v. same_value (val_of v) (val_of c.args.other.now)) (sym c.in-Text.is)

pub Value::is_same-returns-in-List-other : goal.Value::is_same-returns-in-List-other
Value::is_same-returns-in-List-other t c =
    c.same_values.ensures ∙ lists_compared c.args.self.now c.args.other.now c.in-List.items c.in-List-other.own c.as_slice.result.now c.as_slice-in-List-other.result.now c.in-List.is c.in-List-other.is c.as_slice.ensures.value c.as_slice-in-List-other.ensures.value

pub Value::is_same-returns-in-Struct-other-2 : goal.Value::is_same-returns-in-Struct-other-2
Value::is_same-returns-in-Struct-other-2 t c =
    c.same_values-in-Struct-other-2.ensures ∙ structs_compared c.args.self.now c.args.other.now c.in-Struct.parts c.in-Struct-other-2.own c.as_slice-in-Struct-other-2.result.now c.as_slice-in-Struct-other-2-2.result.now c.in-Struct.is c.in-Struct-other-2.is c.as_slice-in-Struct-other-2.ensures.value c.as_slice-in-Struct-other-2-2.ensures.value

pub same_values-returns-then-left-right : goal.same_values-returns-then-left-right
same_values-returns-then-left-right t c = values_apart c.args.left.now c.args.right.now c.if-left-right.true
