use Rattle.std.proofs.Common.{◌≡◌, take, string_bytes}
use Rattle.explain.specs.Verdicts.{place_words}
use Rattle.explain.proofs.answers.place_in_words.Given as goal

abbrev pub invariant-loop-number : goal.invariant-loop-number
invariant-loop-number l = string_bytes l.words ≡ place_words (take l.number l.place)
