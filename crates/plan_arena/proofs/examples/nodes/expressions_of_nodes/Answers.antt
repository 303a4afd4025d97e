use Rattle.std.proofs.Common.{◌≡◌, ℕ, List, [], ◌∷◌, Some, None, true, false, codes, refl, sym, ap, ◌∙◌, subst}
use Rattle.plan_dsl.specs.declared.sort_options.SortMultipleOptions.{SortMultipleOptions}
use Rattle.plan_dsl.specs.Trees.{Trees, node, no_more, more, children_from}
use Rattle.plan_dsl.specs.Ops.{Op, Expression, SortByOp, WindowOp}
use Rattle.plan_dsl.specs.Samples.{a, count, sort_by, way}
use Rattle.plan_arena.specs.declared.aexpr.AExpr.{AExpr}
use Rattle.plan_arena.specs.declared.aexpr.AExpr.TheVariants.{Column, Len, SortBy}
use Rattle.plan_arena.specs.declared.inputs.NodeList.{NodeList}
use Rattle.plan_arena.specs.Layers.{layer}
use Rattle.plan_arena.specs.Denotation.{Denotes, DenoteAll}
use Rattle.plan_arena.specs.Items.{HoldsExpression, numbers}
use Rattle.plan_arena.specs.Samples.{circle, node_at, sum_items, wide_a}
use Rattle.plan_arena.proofs.examples.nodes.expressions_of_nodes.Goals as goal

cast_denotes : Denotes (HoldsExpression sum_items) 2 wide_a
cast_denotes = (0 ∷ [], refl, (([], refl, tt), tt))

pub returns-clause-cast : goal.returns-clause-cast
returns-clause-cast c = cast_denotes

pub returns-clause-sum : goal.returns-clause-sum
returns-clause-sum c = (2 ∷ 1 ∷ [], refl, (cast_denotes, (([], refl, tt), tt)))

pub returns-clause-slice : goal.returns-clause-slice
returns-clause-slice c = (0 ∷ 1 ∷ 1 ∷ [], refl, (([], refl, tt), (([], refl, tt), (([], refl, tt), tt))))

-- a node that is its own input denotes no tree, since the child would be the whole
its_input : (op : Op) (inputs : List ℕ) → HoldsExpression circle 0 op inputs → inputs ≡ 0 ∷ []
its_input op inputs h = cc

mutual
  no_tree : (tree : Expression) → Denotes (HoldsExpression circle) 0 tree → ⊥
  no_tree (node op children) d = no_trees children (subst (λ inputs. DenoteAll (HoldsExpression circle) inputs children) (its_input op d.0 d.1) d.2)

  no_trees : (children : Trees Op) → DenoteAll (HoldsExpression circle) (0 ∷ []) children → ⊥
  no_trees no_more d = d
  no_trees (more child rest) d = no_tree child d.0

pub returns-clause-circle : goal.returns-clause-circle
returns-clause-circle c = λ d. no_tree d.tree d.denotes

pub returns-clause-alias : goal.returns-clause-alias
returns-clause-alias c = (0 ∷ [], refl, (([], refl, tt), tt))

pub returns-clause-sort_by : goal.returns-clause-sort_by
returns-clause-sort_by c = λ by options is. (
  0 ∷ 1 ∷ 0 ∷ [],
  ap (λ nodes. Some (layer (SortByOp options.descending.items.value.items options.nulls_last.items.value.items) (0 ∷ numbers nodes))) is,
  (([], refl, tt), (([], refl, tt), (([], refl, tt), tt))),
)

-- its keys are those two
keys_are : (by : NodeList) (options : SortMultipleOptions) → by.items.items ≡ node_at 1 ∷ node_at 0 ∷ [] → (op : Op) (inputs : List ℕ) → HoldsExpression (Column (codes "a") ∷ Len ∷ SortBy (node_at 0) by options ∷ []) 2 op inputs → 0 ∷ 1 ∷ 0 ∷ [] ≡ inputs
keys_are by options is op inputs h = ap (λ nodes. 0 ∷ numbers nodes) (sym is) ∙ cc

count_isnt_a : (rest : List AExpr) → Denotes (HoldsExpression (Column (codes "a") ∷ Len ∷ rest)) 1 a → ⊥
count_isnt_a rest d = cc

pub returns-clause-other_keys : goal.returns-clause-other_keys
returns-clause-other_keys c = λ by options is.
    let items : List AExpr = Column (codes "a") ∷ Len ∷ SortBy (node_at 0) by options ∷ [] in
    let under : (keys : List Expression) → Denotes (HoldsExpression items) 2 (sort_by options.descending.items.value.items options.nulls_last.items.value.items keys a) → DenoteAll (HoldsExpression items) (0 ∷ 1 ∷ 0 ∷ []) (more a (children_from keys))
    = λ keys d. subst (λ inputs. DenoteAll (HoldsExpression items) inputs (more a (children_from keys))) (sym (keys_are by options is _ d.0 d.1)) d.2 in
    (λ d. count_isnt_a (SortBy (node_at 0) by options ∷ []) (under (a ∷ count ∷ []) d).1.0, (λ d. (under (count ∷ []) d).1.1, (λ d. (under (count ∷ a ∷ a ∷ []) d).1.1.1, tt)))

pub returns-clause-window : goal.returns-clause-window
returns-clause-window c = λ keys is.
    (0 ∷ 1 ∷ [], ap (λ nodes. Some (layer (WindowOp None) (0 ∷ numbers nodes))) is, (([], refl, tt), (([], refl, tt), tt)))

pub returns-clause-ordered_window : goal.returns-clause-ordered_window
returns-clause-ordered_window c = λ keys is. (
  1 ∷ 0 ∷ 1 ∷ [],
  ap (λ nodes. Some (layer (WindowOp (Some (way true false))) (1 ∷ 0 ∷ numbers nodes))) is,
  (([], refl, tt), (([], refl, tt), (([], refl, tt), tt))),
)
