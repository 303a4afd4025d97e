-- An operator and its operands, from a list of three.
use Rattle.plan_json.proofs.Names.{List, Some, [], ap, arith, option_and_then, option_map, subst, sym, ◌<◌, ◌∙◌, ◌≡◌, asked_form, number, part, part_of, places_form, three_items, Name, Data, depth, Declared, asks, expression_read, places_as, read_as, says}
use Rattle.plan_dsl.specs.Ops.{BinaryOp}
use Rattle.plan_dsl.specs.Sources.{Plain, Source}
use Rattle.plan_dsl.specs.Trees.{node, more, no_more}
use Rattle.plan_dsl.specs.declared.operator.Operator.{Operator}
use Rattle.plan_json.specs.Faults.{an_operator}
use Rattle.plan_json.specs.Forms.{bin_key, expression, operator_read}
use Rattle.plan_json.specs.Leaves.{operator_of}
use Rattle.plan_json.specs.Queries.{front}
use Rattle.plan_json.proofs.LookingLemmas.{array-from_three_items}

-- what they say
pub bin_read : (tables : Declared) (d a b c : Data) (op : Operator) (left right : Source) → Some (a, (b, c)) ≡ three_items d
    → operator_of a ≡ Some op → read_as tables expression b ≡ Some (expression_read left) → read_as tables expression c ≡ Some (expression_read right)
    → option_and_then (says bin_key) (places_as tables (asks bin_key) d) ≡ Some (expression_read (node (Plain (BinaryOp op)) (more left (more right no_more))))
bin_read tables d a b c op left right is at_op at_left at_right =
    let rest = front (read_as tables expression b) (front (read_as tables expression c) (Some [])) in
    ap (λ x. option_and_then (says bin_key) (places_as tables (asks bin_key) x)) (array-from_three_items d a b c is)
    ∙ ap (λ o. option_and_then (says bin_key) (front (option_map operator_read o) rest)) at_op
    ∙ ap (λ o. option_and_then (says bin_key) (front (Some (operator_read op)) (front o (front (read_as tables expression c) (Some []))))) at_left
    ∙ ap (λ o. option_and_then (says bin_key) (front (Some (operator_read op)) (front (Some (expression_read left)) (front o (Some []))))) at_right

module _ (names : List Name) (d a b c : Data) (is : Some (a, (b, c)) ≡ three_items d) where
  -- each is a part
  pub op_part : part_of (places_form names (asks bin_key)) (number 0) d ≡ Some (part an_operator a)
  op_part = ap (part_of (places_form names (asks bin_key)) (number 0)) (array-from_three_items d a b c is)

  pub left_part : part_of (places_form names (asks bin_key)) (number 1) d ≡ Some (part (asked_form names expression) b)
  left_part = ap (part_of (places_form names (asks bin_key)) (number 1)) (array-from_three_items d a b c is)

  pub right_part : part_of (places_form names (asks bin_key)) (number 2) d ≡ Some (part (asked_form names expression) c)
  right_part = ap (part_of (places_form names (asks bin_key)) (number 2)) (array-from_three_items d a b c is)

-- and less deep
pub depth-left : (d a b c : Data) → Some (a, (b, c)) ≡ three_items d → depth b < depth d
depth-left d a b c is = subst (λ x. depth b < depth x) (sym (array-from_three_items d a b c is)) (omega arith)

pub depth-right : (d a b c : Data) → Some (a, (b, c)) ≡ three_items d → depth c < depth d
depth-right d a b c is = subst (λ x. depth c < depth x) (sym (array-from_three_items d a b c is)) (omega arith)

pub ruleset less_deep = (depth-left, depth-right)
