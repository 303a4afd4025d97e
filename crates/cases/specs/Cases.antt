-- What a case says of the program.
use Rattle.std.specs.Prelude.{◌≡◌, ℕ, List, [], Some}
use Rattle.plan_types.specs.Schemas.{Name}
use Rattle.plan_dsl.specs.Registry.{Registry}
use Rattle.query_run.specs.Answers.{Ended, status_number}
use Rattle.query_run.specs.declared.status.Done.{Done}

-- a run of the words over the input ends with that status, and writes that text
abbrev pub EndsWith : Registry → List Name → List ℕ → ℕ → List ℕ → Type 0
EndsWith registry words input status text =
    (done : Done) × ((status_number done.status ≡ status) × Ended registry words (Some input) (Some []) (Some text) done)
