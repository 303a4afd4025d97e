-- The name of a node, from the item that gives it.
use Rattle.std.proofs.Common.{◌≡◌, ℕ, ◌<◌, List, length, map, Some, slice_get, ap, ◌∙◌, subst, arith}
use Rattle.std.proofs.lemmas.List.{length-map}
use Rattle.plan_dsl.specs.Names.{Label, label_of, op_label}
use Rattle.plan_dsl.specs.Ops.{Expression}
use Rattle.plan_arena.specs.declared.aexpr.AExpr.{AExpr}
use Rattle.plan_arena.specs.Layers.{inputs_of, layer, op_of, shape_of}
use Rattle.plan_arena.specs.Items.{AreNamesOver, expression_layer}
use Rattle.plan_arena.proofs.DenotationLemmas.{some_same}
use Rattle.plan_arena.proofs.ItemLemmas.{expression_got, expression_laws}
use Rattle.plan_infer.specs.KeptTypes.{GivesName}

-- the item that gives a name
pub item_gives : (items : List AExpr) (n : ℕ) (item : AExpr) (t : Expression) → GivesName items n t → slice_get items n ≡ Some item → (names : List Label) → AreNamesOver (inputs_of (expression_layer item)) names → op_label (op_of (expression_layer item)) names ≡ label_of t
item_gives items n item t name got names over =
    let is = some_same _ (expression_layer item) (layer name.op name.inputs) (expression_got items n item got) name.held in
    ap (λ o. op_label o names) (ap op_of is) ∙ name.gives names (subst (λ ns. AreNamesOver ns names) (ap inputs_of is) over)

pub gives_within : (items : List AExpr) (n : ℕ) (t : Expression) → GivesName items n t → n < length items
gives_within items n t name =
    let short : length (shape_of (map expression_layer items)) ≡ length items = length-map (map expression_layer items) inputs_of ∙ length-map items expression_layer in
    omega (arith, (expression_laws items).below n name.op name.inputs name.held, short)
