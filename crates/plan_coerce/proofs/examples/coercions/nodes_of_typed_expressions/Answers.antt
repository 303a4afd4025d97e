use Rattle.std.proofs.Common.{◌≡◌, [], ◌∷◌, pos, codes, true, false, Err, Ok, refl, subst, arith}
use Rattle.plan_types.specs.Types.{Integer, Untyped}
use Rattle.plan_types.specs.declared.error.ErrorKind.TheVariants.{ColumnNotFound}
use Rattle.plan_dsl.specs.declared.literal.LiteralValue.TheVariants.{Int}
use Rattle.plan_dsl.specs.declared.operator.Operator.TheVariants.{Plus}
use Rattle.plan_dsl.specs.Trees.{Trees, node, no_more, more}
use Rattle.plan_dsl.specs.Ops.{Op, BinaryOp}
use Rattle.plan_dsl.specs.Typing.{typing}
use Rattle.plan_arena.specs.declared.aexpr.AExpr.TheVariants.{Literal}
use Rattle.plan_arena.specs.Denotation.{Denotes, DenoteAll}
use Rattle.plan_arena.specs.Items.{HoldsFrom}
use Rattle.plan_arena.proofs.ItemLemmas.{from_top}
use Rattle.plan_infer.specs.Typed.{HasKnownType}
use Rattle.plan_infer.specs.Samples.{int32, of_type, of_one, a, five, sum, sum_items, a_items}
use Rattle.plan_infer.proofs.ExampleLemmas.{one_tree}
use Rattle.plan_coerce.proofs.ExampleLemmas.{known_one}
use Rattle.plan_coerce.proofs.examples.coercions.nodes_of_typed_expressions.Goals as goal

sum_denotes : Denotes (HoldsFrom 0 sum_items) 2 sum
sum_denotes = (0 ∷ 1 ∷ [], (omega arith, refl), (([], (omega arith, refl), tt), (([], (omega arith, refl), tt), tt)))

number_denotes : Denotes (HoldsFrom 0 (Literal (Int (pos 5)) ∷ [])) 0 five
number_denotes = ([], (omega arith, refl), tt)

pub returns-clause-sum : goal.returns-clause-sum
returns-clause-sum c = record { tree = sum; denotes = sum_denotes; typed = of_type int32; is = refl }

pub returns-clause-sum_is_known : goal.returns-clause-sum_is_known
returns-clause-sum_is_known c = record { tree = sum; denotes = sum_denotes; has = record { typed = of_type int32; is = refl; known = refl } }

-- the sum has an input below the number
below_one : (children : Trees Op) → DenoteAll (HoldsFrom 1 sum_items) (0 ∷ 1 ∷ []) children → ⊥
below_one no_more d = d
below_one (more (node op children) rest) d = omega (arith, d.0.1.0)

pub returns-clause-node_below_the_number : goal.returns-clause-node_below_the_number
returns-clause-node_below_the_number c = λ d.
    let top = from_top 1 sum_items 2 (BinaryOp Plus) (0 ∷ 1 ∷ []) refl d.tree d.denotes in
    below_one top.0 top.2

pub returns-clause-no_such_column : goal.returns-clause-no_such_column
returns-clause-no_such_column c = λ d.
    let same = one_tree 0 a_items 0 d.tree a d.denotes ([], (omega arith, refl), tt) in
    let is : Err ColumnNotFound ≡ Ok d.typed = subst (λ t. typing [] ((codes "b", Integer true 32) ∷ []) t ≡ Ok d.typed) same d.is in
    cc

pub returns-clause-number : goal.returns-clause-number
returns-clause-number c = record { tree = five; denotes = number_denotes; typed = of_one (Untyped (pos 5)); is = refl }

pub returns-clause-number_is_not_known : goal.returns-clause-number_is_not_known
returns-clause-number_is_not_known c = λ d.
    let has = subst (λ t. HasKnownType (typing [] [] t)) (one_tree 0 (Literal (Int (pos 5)) ∷ []) 0 d.tree five d.denotes number_denotes) d.has in
    let known : false ≡ true = known_one _ (of_one (Untyped (pos 5))) has refl in
    cc
