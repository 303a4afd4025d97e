use Rattle.std.proofs.Common.{◌≡◌, ap, sym, ◌∙◌, length, map, arith}
use Rattle.std.proofs.lemmas.List.{length-map, with_items_is}
use Rattle.plan_arena.specs.Items.{numbers, output_label, recorded, numbers_named}
use Rattle.plan_arena.proofs.NamedLemmas.{labels_of_names, names_in, numbers_of_nodes, same_inputs}
use Rattle.plan_arena.proofs.aexpr.set_named.Goals as goal

stay_as_many : (c : goal.After-exprs-1) → length c.set_nodes.new.exprs ≡ c.args.exprs.now.items.len
stay_as_many c =
    let new = length-map c.set_nodes.new.exprs (λ e. e.node) in
    let old = length-map c.args.exprs.now.items.items (λ e. e.node.0) in
    omega (arith, new, old, ap length c.set_nodes.ensures.list, c.requires, c.args.exprs.now.items.ok.0)

same_names : (c : goal.After-exprs-1) → names_in c.set_nodes.new.exprs ≡ names_in c.args.exprs.now.items.items
same_names c = c.set_nodes.ensures.names ∙ ap names_in c.as_mut_slice.ensures.value

pub returns-clause-list : goal.returns-clause-list
returns-clause-list c = ap numbers_named (with_items_is c.args.exprs.now.items c.set_nodes.new.exprs (stay_as_many c)) ∙ numbers_of_nodes c.set_nodes.new.exprs ∙ ap numbers c.set_nodes.ensures.list

pub returns-clause-names : goal.returns-clause-names
returns-clause-names c =
    ap recorded (with_items_is c.args.exprs.now.items c.set_nodes.new.exprs (stay_as_many c))
    ∙ labels_of_names c.set_nodes.new.exprs ∙ ap (map output_label) (same_names c) ∙ sym (labels_of_names c.args.exprs.now.items.items)

pub returns-clause-same : goal.returns-clause-same
returns-clause-same c = λ same. same_inputs c.args.exprs.now c.set_nodes.new.exprs c.args.inputs.now c.set_nodes.ensures.list (same_names c) same
