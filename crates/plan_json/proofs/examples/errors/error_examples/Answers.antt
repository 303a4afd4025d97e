use Rattle.plan_json.proofs.Names.{[], refl, ◌∷◌, BadShape, IsBadAt, Path, a_text, number}
use Rattle.plan_json.specs.Samples.{word}
use Rattle.plan_json.proofs.OnLiterals.{values_on_literals}
use Rattle.plan_json.proofs.examples.errors.error_examples.Goals as goal

pub returns-clause-told : goal.returns-clause-told
unfolding values_on_literals
returns-clause-told c path is = (number 0 ∷ [], is, refl)

pub returns-clause-of_a_list : goal.returns-clause-of_a_list
unfolding values_on_literals
returns-clause-of_a_list c path is = record { told = λ names. (number 0 ∷ [], is, refl) }

text_stands : (path : Path) → ¬ (IsBadAt a_text (word "a") BadShape path)
unfolding values_on_literals
text_stands [] bad = cc
text_stands (step ∷ path) bad = cc

pub returns-clause-not_told : goal.returns-clause-not_told
returns-clause-not_told c path told = text_stands told.0 told.2
