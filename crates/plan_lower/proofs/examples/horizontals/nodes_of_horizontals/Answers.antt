use Rattle.std.proofs.Common.{[], ◌∷◌, refl, arith}
use Rattle.plan_lower.proofs.examples.horizontals.nodes_of_horizontals.Goals as goal

pub returns-clause-one : goal.returns-clause-one
returns-clause-one c = (0 ∷ [], (omega arith, refl), (([], (omega arith, refl), tt), tt))

pub returns-clause-two : goal.returns-clause-two
returns-clause-two c = (0 ∷ 1 ∷ [], (omega arith, refl), (([], (omega arith, refl), tt), (([], (omega arith, refl), tt), tt)))

pub returns-clause-three : goal.returns-clause-three
returns-clause-three c =
    (2 ∷ 3 ∷ [], (omega arith, refl), ((0 ∷ 1 ∷ [], (omega arith, refl), (([], (omega arith, refl), tt), (([], (omega arith, refl), tt), tt))), (([], (omega arith, refl), tt), tt)))

pub returns-clause-aliases : goal.returns-clause-aliases
returns-clause-aliases c =
    (3 ∷ [], (omega arith, refl), ((1 ∷ 2 ∷ [], (omega arith, refl), ((0 ∷ [], (omega arith, refl), (([], (omega arith, refl), tt), tt)), (([], (omega arith, refl), tt), tt))), tt))

pub returns-clause-no_aliases : goal.returns-clause-no_aliases
returns-clause-no_aliases c = (0 ∷ 1 ∷ [], (omega arith, refl), (([], (omega arith, refl), tt), (([], (omega arith, refl), tt), tt)))

pub returns-clause-inside : goal.returns-clause-inside
returns-clause-inside c =
    (0 ∷ 3 ∷ [], (omega arith, refl), (([], (omega arith, refl), tt), ((1 ∷ 2 ∷ [], (omega arith, refl), (([], (omega arith, refl), tt), (([], (omega arith, refl), tt), tt))), tt)))
