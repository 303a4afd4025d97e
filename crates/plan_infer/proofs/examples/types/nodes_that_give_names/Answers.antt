use Rattle.std.proofs.Common.{◌≡◌, ℕ, true, false, List, [], codes, refl, ap, ◌∙◌}
use Rattle.plan_types.specs.Schemas.{same_name}
use Rattle.plan_dsl.specs.declared.operator.Operator.TheVariants.{Plus}
use Rattle.plan_dsl.specs.Names.{Label, op_label}
use Rattle.plan_dsl.specs.Ops.{Op, BinaryOp, ColumnOp}
use Rattle.plan_arena.specs.Items.{HoldsExpression}
use Rattle.plan_arena.proofs.LabelLemmas.{none_over}
use Rattle.plan_infer.specs.Samples.{sum_items}
use Rattle.plan_infer.proofs.examples.types.nodes_that_give_names.Goals as goal

second : (op : Op) (inputs : List ℕ) → HoldsExpression sum_items 1 op inputs → ColumnOp (codes "b") ≡ op
second op inputs h = cc

top : (op : Op) (inputs : List ℕ) → HoldsExpression sum_items 2 op inputs → BinaryOp Plus ≡ op
top op inputs h = cc

pub returns-clause-column : goal.returns-clause-column
returns-clause-column c = record { op = ColumnOp (codes "a"); inputs = []; held = refl; gives = λ names over. refl }

pub returns-clause-left_operand : goal.returns-clause-left_operand
returns-clause-left_operand c = record { op = ColumnOp (codes "a"); inputs = []; held = refl; gives = λ names over. refl }

pub returns-clause-right_operand : goal.returns-clause-right_operand
returns-clause-right_operand c = λ name.
    let e = ap (λ o. op_label o []) (second name.op name.inputs name.held) ∙ name.gives [] (none_over name.inputs) in
    let differs : false ≡ true = ap (λ (l : Label). same_name (codes "a") l.name) e in
    cc

pub returns-clause-operator : goal.returns-clause-operator
returns-clause-operator c = λ name.
    let e = ap (λ o. op_label o []) (top name.op name.inputs name.held) ∙ name.gives [] (none_over name.inputs) in
    let differs : false ≡ true = ap (λ (l : Label). same_name (codes "a") l.name) e in
    cc
