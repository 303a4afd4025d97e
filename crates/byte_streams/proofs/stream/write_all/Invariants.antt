use Rattle.std.proofs.Common.{ℕ, ◌-◌, ◌≤◌, List, length, take}
use Rattle.std.specs.declared.option.Option.{Option}
use Rattle.std.specs.Io.KnownBytes.{Appends}
use Rattle.byte_streams.proofs.stream.write_all.Given as goal

-- the front of the text was written, and the count has not fallen
pub record Writes (written written' : Option (List ℕ)) (faults faults' done : ℕ) (text : List ℕ) : Type 0 where
  pub within : done ≤ length text
  pub front : Appends written written' (take done text)
  pub later : faults ≤ faults'

abbrev pub invariant-writing : goal.invariant-writing
invariant-writing g l =
    Writes (g.K.Sink.written l.fn.sink) (g.K.Sink.written l.sink) (g.K.Sink.faults l.fn.sink)
    (g.K.Sink.faults l.sink) l.done l.text

abbrev pub decreases-writing : goal.decreases-writing
decreases-writing g l = length l.text - l.done
