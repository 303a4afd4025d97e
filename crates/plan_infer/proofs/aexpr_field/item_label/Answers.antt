use Rattle.std.proofs.Common.{slice_get, sym, ap, ◌∙◌}
use Rattle.std.specs.Option.{option_map_or}
use Rattle.std.specs.Str.{chars}
use Rattle.plan_dsl.specs.Names.{first_label, literal_label}
use Rattle.plan_arena.specs.Items.{expression_layer, output_label}
use Rattle.plan_arena.specs.Layers.{inputs_of}
use Rattle.plan_infer.specs.KeptTypes.{IsKept}
use Rattle.plan_arena.proofs.NumberLemmas.{all_there}
use Rattle.plan_infer.proofs.ItemTreeLemmas.{named_by_first, named_without_inputs}
use Rattle.plan_infer.proofs.aexpr_field.item_label.Goals as goal

pub output_name-requires-clause-kept : goal.output_name-requires-clause-kept
output_name-requires-clause-kept c =
    let there = ap (λ ns. slice_get ns 0) (sym c.input_nodes.ensures) ∙ c.in-Some-first.ensures in
    all_there (IsKept c.args.types.now) (inputs_of (expression_layer c.args.item.now)) c.requires.kept 0 c.in-Some-first.first.0 there

pub returns-in_ok-name-in-Some-first-clause-ok : goal.returns-in_ok-name-in-Some-first-clause-ok
returns-in_ok-name-in-Some-first-clause-ok c =
    let there = ap (λ ns. slice_get ns 0) (sym c.input_nodes.ensures) ∙ c.in-Some-first.ensures in
    named_by_first c.args.arena.now (expression_layer c.args.item.now) (λ labels.
    c.in_ok-name.ensures.ok labels ∙ ap (λ name. option_map_or output_label name (first_label labels)) c.in_default.is) c.in-Some-first.first.0 there (output_label c.in_ok-name-in-Some-first.name) c.in_ok-name-in-Some-first.ensures.ok

pub returns-in_ok-name-in-None-clause-ok : goal.returns-in_ok-name-in-None-clause-ok
unfolding chars
returns-in_ok-name-in-None-clause-ok c =
    named_without_inputs c.args.arena.now (expression_layer c.args.item.now) (λ labels.
    c.in_ok-name.ensures.ok labels ∙ ap (λ name. option_map_or output_label name (first_label labels)) c.in_default.is) (sym c.input_nodes.ensures ∙ c.in-None.ensures) (literal_label c.in_ok-name-in-None.name) (ap literal_label c.in_ok-name-in-None.ensures.ok)
