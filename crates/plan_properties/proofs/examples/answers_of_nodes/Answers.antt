use Rattle.std.proofs.Common.{◌≡◌, ◌<◌, true, false, [], ◌∷◌, ◌&&◌, map, codes, refl, sym, ap, ◌∙◌, subst, arith}
use Rattle.plan_dsl.specs.Ops.{Op, ColumnOp, LenOp, Expression}
use Rattle.plan_dsl.specs.Properties.{all_trees, is_elementwise, is_scalar}
use Rattle.plan_dsl.specs.Samples.{a}
use Rattle.plan_dsl.specs.Trees.{Trees, node, no_more, more}
use Rattle.plan_arena.specs.Denotation.{Denotes, DenoteAll}
use Rattle.plan_arena.specs.Items.{DenoteNamed, HoldsExpression, named_node}
use Rattle.plan_arena.specs.Layers.{layer}
use Rattle.plan_arena.proofs.ItemLemmas.{held_top, tree_within}
use Rattle.plan_infer.specs.ItemTrees.{LayerDenotes}
use Rattle.plan_infer.specs.Samples.{a_items}
use Rattle.plan_properties.specs.Samples.{recorded_a}
use Rattle.plan_properties.specs.Splitting.{own_named}
use Rattle.plan_properties.proofs.examples.answers_of_nodes.Goals as goal

apart : true ≡ false → ⊥
apart e = cc

none : (ts : Trees Op) → DenoteAll (HoldsExpression a_items) [] ts → ts ≡ no_more
none no_more d = refl
none (more t ts) d = absurd d

only_a : (t : Expression) → Denotes (HoldsExpression a_items) 0 t → a ≡ t
only_a t d =
    let top = held_top a_items 0 (ColumnOp (codes "a")) [] refl t d in
    sym (top.1 ∙ ap (node (ColumnOp (codes "a"))) (none top.0 top.2))

counts : (t : Expression) → LayerDenotes a_items (layer LenOp []) t → true ≡ is_scalar t
counts (node op no_more) d = ap (λ o. is_scalar (node o no_more)) d.0
counts (node op (more t ts)) d = absurd d.1

both : (ts : Trees Op) → DenoteAll (HoldsExpression a_items) (0 ∷ 0 ∷ []) ts → true ≡ all_trees is_elementwise ts
both no_more d = absurd d
both (more t no_more) d = absurd d.1
both (more t (more u no_more)) d = λ i. is_elementwise (only_a t d.0 i) && (is_elementwise (only_a u d.1.0 i) && true)
both (more t (more u (more v ts))) d = absurd d.1.1

pub returns-clause-node : goal.returns-clause-node
returns-clause-node c = λ t d. ap is_elementwise (only_a t d)

pub returns-clause-other_node : goal.returns-clause-other_node
returns-clause-other_node c = λ h. apart (h a ([], refl, tt))

pub returns-clause-item : goal.returns-clause-item
returns-clause-item c = counts

pub returns-clause-other_item : goal.returns-clause-other_item
returns-clause-other_item c = λ h. apart (h (node LenOp no_more) (refl, tt))

pub returns-clause-all : goal.returns-clause-all
returns-clause-all c = both

pub returns-clause-not_all : goal.returns-clause-not_all
returns-clause-not_all c = λ h. apart (h (more a no_more) (([], refl, tt), tt))

pub returns-clause-denoted : goal.returns-clause-denoted
returns-clause-denoted c = (record { tree = a; denotes = ([], refl, tt) }, (record { tree = a; denotes = ([], refl, tt) }, tt))

pub returns-clause-not_denoted : goal.returns-clause-not_denoted
returns-clause-not_denoted c = λ h.
    let within : 1 < 1 = tree_within a_items 1 h.1.0 in
    omega (arith, within)

pub returns-clause-parts : goal.returns-clause-parts
returns-clause-parts c = record { added = recorded_a ∷ []; longer = refl; denote = (refl, ([], refl, tt), tt) }

pub returns-clause-no_parts : goal.returns-clause-no_parts
returns-clause-no_parts c = λ h. subst (λ es. DenoteNamed a_items (map named_node es) (own_named a ∷ [])) (sym h.longer) h.denote
