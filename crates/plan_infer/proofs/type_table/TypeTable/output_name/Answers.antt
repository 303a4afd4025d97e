use Rattle.std.proofs.Common.{[], sym, ap, ◌∙◌}
use Rattle.plan_dsl.specs.Names.{label_of}
use Rattle.plan_arena.specs.Items.{HoldsExpression, expression_layer}
use Rattle.plan_arena.specs.Layers.{inputs_of}
use Rattle.plan_arena.proofs.LabelLemmas.{none_over}
use Rattle.plan_arena.proofs.DenotationLemmas.{denotes_one}
use Rattle.plan_arena.proofs.ItemLemmas.{expression_laws}
use Rattle.plan_infer.proofs.FieldLemmas.{gives_within, item_gives}
use Rattle.plan_infer.proofs.type_table.TypeTable.output_name.Goals as goal

pub get-requires : goal.get-requires
get-requires c =
    let own = c.get-own.result.now in
    let e = c.requires.right.right.each c.args.node.0 own c.get-own.ensures in
    gives_within c.args.arena.now own.name.0 e.tree e.name

pub given_name-requires : goal.given_name-requires
given_name-requires c =
    let own = c.get-own.result.now in
    let e = c.requires.right.right.each c.args.node.0 own c.get-own.ensures in
    (label_of e.tree, item_gives c.args.arena.now own.name.0 c.get.result.now e.tree e.name c.get.ensures)

pub returns-clause-ok : goal.returns-clause-ok
returns-clause-ok c = λ t d.
    let items = c.args.arena.now in
    let own = c.get-own.result.now in
    let e = c.requires.right.right.each c.args.node.0 own c.get-own.ensures in
    let over = none_over (inputs_of (expression_layer c.get.result.now)) in
    sym (c.in_ok-name.ensures.ok [] over)
    ∙ item_gives items own.name.0 c.get.result.now e.tree e.name c.get.ensures [] over
    ∙ ap label_of (denotes_one _ (HoldsExpression items) (expression_laws items) c.args.node.0 e.tree t e.denotes d)
