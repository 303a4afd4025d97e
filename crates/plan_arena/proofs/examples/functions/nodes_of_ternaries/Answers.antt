use Rattle.std.proofs.Common.{[], ◌∷◌, refl}
use Rattle.plan_arena.proofs.examples.functions.nodes_of_ternaries.Goals as goal

pub returns-clause-denotes : goal.returns-clause-denotes
returns-clause-denotes c = (0 ∷ 1 ∷ 2 ∷ [], refl, (([], refl, tt), (([], refl, tt), (([], refl, tt), tt))))
