use Rattle.std.proofs.Common.{Bool, true, false, refl, ap, sym, pos, [], ◌∷◌, List}
use Rattle.std.proofs.lemmas.Bool.{false≢true}
use Rattle.plan_types.specs.Outcomes.{Outcome, Done}
use Rattle.plan_types.specs.Types.{Truth}
use Rattle.plan_types.specs.Values.{Val, IntValue}
use Rattle.plan_infer.specs.Samples.{a, b, columns_of}
use Rattle.own_rule.proofs.AndLemmas.{and_same}
use Rattle.own_rule.proofs.examples.ands_of_truths.Goals as goal

-- whether it is a number
abbrev is_number : Outcome (List Val) → Bool
is_number (Done (IntValue number ∷ [])) = true
is_number outcome = false

pub returns-clause-on_frames : goal.returns-clause-on_frames
returns-clause-on_frames c = and_same [] (columns_of Truth Truth) a b true true refl refl

pub returns-clause-on_other_rows : goal.returns-clause-on_other_rows
returns-clause-on_other_rows c = λ same.
    let one = IntValue (pos 1) in
    false≢true (sym (ap (λ meaning. is_number (meaning (0 ∷ []))) (same.meaning ((one ∷ one ∷ []) ∷ []))))
