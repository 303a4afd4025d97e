use Rattle.std.proofs.Common.{◌≡◌, [], ◌∷◌, refl, ap}
use Rattle.plan_types.specs.declared.error.ErrorKind.TheVariants.{Duplicate, NoMemory}
use Rattle.plan_dsl.specs.Plans.{HitsOption}
use Rattle.plan_arena.specs.Layers.{inputs_of}
use Rattle.plan_arena.proofs.examples.nodes.options_of_items.Goals as goal

pub returns-clause-copy : goal.returns-clause-copy
returns-clause-copy c = record { ok = refl; options = refl; err = tt }

pub returns-clause-no_copies : goal.returns-clause-no_copies
returns-clause-no_copies c = (
  (λ copies. let inputs : 4 ∷ [] ≡ 5 ∷ [] = ap inputs_of copies.ok in cc),
  (
    (λ copies. let options : HitsOption 0 ∷ [] ≡ HitsOption 2 ∷ [] = copies.options in cc),
    ((λ copies. let kind : Duplicate ≡ NoMemory = ap (λ e. e.kind) copies.err in cc), tt),
  ),
)

pub returns-clause-no_copy : goal.returns-clause-no_copy
returns-clause-no_copy c = record { ok = tt; options = tt; err = refl }
