use Rattle.std.proofs.Common.{◌<◌, [], ◌∷◌, pos, false, refl, subst, arith}
use Rattle.std.proofs.lemmas.Bool.{false≢true}
use Rattle.plan_types.specs.Types.{Untyped}
use Rattle.plan_dsl.specs.Ops.{Expression, LenOp}
use Rattle.plan_dsl.specs.Trees.{no_more, more}
use Rattle.plan_dsl.specs.Typing.{Typed}
use Rattle.plan_infer.specs.Samples.{two_columns, five, sum, sum_items}
use Rattle.plan_infer.proofs.ExampleLemmas.{one_expression}
use Rattle.plan_coerce.specs.Rules.{until_settled}
use Rattle.plan_coerce.proofs.examples.rules.what_is_no_replacement.Goals as goal

pub returns-clause-unchanged : goal.returns-clause-unchanged
returns-clause-unchanged c = λ r.
    let same = one_expression sum_items 2 r.tree sum r.denotes (0 ∷ 1 ∷ [], refl, (([], refl, tt), (([], refl, tt), tt))) in
    let falls : 2 < 2 = subst (λ (t : Expression). until_settled [] two_columns t < 2) same r.falls in
    omega (arith, falls)

pub returns-clause-any_node : goal.returns-clause-any_node
returns-clause-any_node c = λ settles.
    let number : Typed = record { type = Untyped (pos 5); many = false } in
    false≢true ((settles LenOp (more five no_more) refl).0 number refl)
