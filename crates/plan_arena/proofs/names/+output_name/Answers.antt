use Rattle.std.proofs.Common.{slice_get, sym, ap, ◌∙◌, arith}
use Rattle.std.specs.Option.{option_map_or}
use Rattle.plan_dsl.specs.Names.{first_label}
use Rattle.plan_arena.specs.Items.{output_label}
use Rattle.plan_arena.proofs.ItemLemmas.{tree_within}
use Rattle.plan_arena.proofs.LabelLemmas.{own_label, named_by_first, named_without_inputs, first_leads_down}
use Rattle.plan_arena.proofs.names.+output_name.Goals as goal

pub get-item-requires : goal.get-item-requires
get-item-requires t c = tree_within c.args.arena.now c.args.node.0 c.requires

pub returns-in-Some-clause-ok : goal.returns-in-Some-clause-ok
returns-in-Some-clause-ok t c =
    own_label c.args.arena.now c.args.node.0 c.get-item.result.now c.get-item.ensures (output_label c.in-Some.name) (λ labels.
    c.in_ok-name.ensures.ok labels ∙ ap (λ name. option_map_or output_label name (first_label labels)) c.in-Some.is)

pub output_name-requires : goal.output_name-requires
output_name-requires t c =
    let there = ap (λ ns. slice_get ns 0) (sym c.input_nodes.ensures) ∙ c.in-Some-first.ensures in
    let leads = first_leads_down c.args.arena.now c.args.node.0 c.get-item.result.now c.get-item.ensures c.in-Some-first.first.0 there c.requires in
    (omega (arith, c.decreases, leads.1), leads.0)

pub returns-in_ok-name-in-Some-first-clause-ok : goal.returns-in_ok-name-in-Some-first-clause-ok
returns-in_ok-name-in-Some-first-clause-ok t c =
    let there = ap (λ ns. slice_get ns 0) (sym c.input_nodes.ensures) ∙ c.in-Some-first.ensures in
    named_by_first c.args.arena.now c.args.node.0 c.get-item.result.now c.get-item.ensures (λ labels.
    c.in_ok-name.ensures.ok labels ∙ ap (λ name. option_map_or output_label name (first_label labels)) c.in_default.is) c.in-Some-first.first.0 there (output_label c.in_ok-name-in-Some-first.name) c.in_ok-name-in-Some-first.ensures.ok

pub returns-in_ok-name-in-None-clause-ok : goal.returns-in_ok-name-in-None-clause-ok
returns-in_ok-name-in-None-clause-ok t c =
    let there = ap (λ ns. slice_get ns 0) (sym c.input_nodes.ensures ∙ c.in-None.ensures) in
    named_without_inputs c.args.arena.now c.args.node.0 c.get-item.result.now c.get-item.ensures (λ labels.
    c.in_ok-name.ensures.ok labels ∙ ap (λ name. option_map_or output_label name (first_label labels)) c.in_default.is) there (output_label c.in_ok-name-in-None.name) c.in_ok-name-in-None.ensures.ok
