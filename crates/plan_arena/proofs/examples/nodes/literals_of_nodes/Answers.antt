use Rattle.std.proofs.Common.{[], ◌∷◌, refl}
use Rattle.plan_arena.proofs.examples.nodes.literals_of_nodes.Goals as goal

pub returns-clause-sum : goal.returns-clause-sum
returns-clause-sum c = (0 ∷ 1 ∷ [], refl, (([], refl, tt), (([], refl, tt), tt)))
