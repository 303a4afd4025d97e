use Rattle.std.proofs.Common.{◌≡◌, ◌==◌, ◌<◌, ℕ, pos, Bool, false, List, [], ◌∷◌, length, refl, ap, arith}
use Rattle.std.specs.List.{AllByRecursion}
use Rattle.std.proofs.lemmas.Bool.{false≢true}
use Rattle.plan_types.specs.Frames.{IsFrame, Row}
use Rattle.plan_types.specs.Outcomes.{Outcome, Done}
use Rattle.plan_types.specs.Values.{Val, IntValue}
use Rattle.plan_dsl.specs.Meaning.{meaning}
use Rattle.plan_dsl.specs.Samples.{count}
use Rattle.plan_dsl.specs.declared.operator.Operator.TheVariants.{Plus}
use Rattle.plan_infer.specs.Samples.{binary, int8, one_column}
use Rattle.plan_coerce.proofs.examples.rules.rows_that_are_compared.Goals as goal

-- whether it is one
abbrev is_one : Outcome (List Val) → Bool
is_one (Done (IntValue (pos number) ∷ [])) = number == 1
is_one outcome = false

-- a frame without columns has no rows
on_no_rows : (rows : List Row) → rows ≡ [] → (numbers : List ℕ) → AllByRecursion (λ n. n < length rows) numbers → meaning [] (record { schema = []; rows = rows }) (binary Plus count count) numbers ≡ meaning [] (record { schema = []; rows = rows }) count numbers
on_no_rows rows none [] within = refl
on_no_rows rows none (n ∷ numbers) within = absurd (omega (arith, within.0, ap length none))

pub returns-clause-no_rows : goal.returns-clause-no_rows
returns-clause-no_rows c = record { typing = refl; name = refl; meaning = λ rows is numbers within. on_no_rows rows is.bare numbers within }

pub returns-clause-other_rows : goal.returns-clause-other_rows
returns-clause-other_rows c = λ same. false≢true (ap (λ meaning. is_one (meaning (0 ∷ []))) (same.meaning []))

pub returns-clause-rows : goal.returns-clause-rows
returns-clause-rows c = λ same.
    let row : Row = IntValue (pos 1) ∷ [] in
    let is : IsFrame (record { schema = one_column int8; rows = row ∷ [] }) = record { distinct = (refl, tt); fitting = ((refl, tt), tt); bare = tt } in
    false≢true (ap is_one (same.meaning (row ∷ []) is (0 ∷ []) (omega arith, tt)))
