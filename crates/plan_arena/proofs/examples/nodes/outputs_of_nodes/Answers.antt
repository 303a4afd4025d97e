use Rattle.std.proofs.Common.{[], ◌∷◌, refl}
use Rattle.plan_arena.proofs.examples.nodes.outputs_of_nodes.Goals as goal

pub returns-clause-sum : goal.returns-clause-sum
returns-clause-sum c = (refl, (2 ∷ 1 ∷ [], refl, ((0 ∷ [], refl, (([], refl, tt), tt)), (([], refl, tt), tt))), tt)
