use Rattle.std.proofs.Common.{◌≡◌, ℕ, zero, suc, List, [], ◌∷◌, refl, sym, subst, arith}
use Rattle.plan_types.specs.declared.dtype.DataType.TheVariants as dtype
use Rattle.plan_dsl.specs.Trees.{node, no_more, more}
use Rattle.plan_dsl.specs.Ops.{Expression, Op}
use Rattle.plan_arena.specs.Denotation.{Denotes, DenoteAll, DenotesTree}
use Rattle.plan_arena.specs.Items.{HoldsExpression}
use Rattle.plan_arena.proofs.ItemLemmas.{tree_within}
use Rattle.plan_infer.specs.Samples.{a, sum, a_items, sum_items}
use Rattle.plan_coerce.specs.Samples.{cast_of}
use Rattle.plan_coerce.proofs.ExampleLemmas.{sum_denotes}
use Rattle.plan_coerce.proofs.examples.optimizer.arenas_that_stay_finite.Goals as goal

pub returns-clause-trees : goal.returns-clause-trees
returns-clause-trees c = (record { tree = sum; denotes = sum_denotes }, (record { tree = a; denotes = ([], refl, tt) }, tt))

pub returns-clause-no_such_node : goal.returns-clause-no_such_node
returns-clause-no_such_node c = λ all. omega (arith, tree_within sum_items 3 all.1.0)

circle_inputs : (op : Op) (inputs : List ℕ) → HoldsExpression (cast_of 0 dtype.Int32 ∷ []) 0 op inputs → 0 ∷ [] ≡ inputs
circle_inputs op inputs h = cc

in_circle : (t : Expression) → Denotes (HoldsExpression (cast_of 0 dtype.Int32 ∷ [])) 0 t → ⊥
in_circle (node op no_more) d = subst (λ ns. DenoteAll (HoldsExpression (cast_of 0 dtype.Int32 ∷ [])) ns no_more) (sym (circle_inputs op d.0 d.1)) d.2
in_circle (node op (more t ts)) d = in_circle t (subst (λ ns. DenoteAll (HoldsExpression (cast_of 0 dtype.Int32 ∷ [])) ns (more t ts)) (sym (circle_inputs op d.0 d.1)) d.2).0

pub returns-clause-circle : goal.returns-clause-circle
returns-clause-circle c = λ all. in_circle all.0.tree all.0.denotes

grown : (n : ℕ) → DenotesTree (HoldsExpression a_items) n → DenotesTree (HoldsExpression sum_items) n
grown zero d = record { tree = a; denotes = ([], refl, tt) }
grown (suc n) d = absurd (omega (arith, tree_within a_items (suc n) d))

pub returns-clause-grown : goal.returns-clause-grown
returns-clause-grown c = grown

pub returns-clause-becomes_a_circle : goal.returns-clause-becomes_a_circle
returns-clause-becomes_a_circle c = λ stays.
    let circle = stays 0 (record { tree = a; denotes = ([], refl, tt) }) in
    in_circle circle.tree circle.denotes

pub returns-clause-taken_away : goal.returns-clause-taken_away
returns-clause-taken_away c = λ stays. omega (arith, tree_within [] 0 (stays 0 (record { tree = a; denotes = ([], refl, tt) })))
