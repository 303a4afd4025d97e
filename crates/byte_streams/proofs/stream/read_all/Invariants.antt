use Rattle.std.proofs.Common.{ℕ, ◌≤◌, List, length}
use Rattle.std.specs.declared.option.Option.{Option}
use Rattle.std.specs.Io.KnownBytes.{Consumes}
use Rattle.byte_streams.specs.declared.stream.TheConstants.{INPUT_LIMIT}
use Rattle.byte_streams.proofs.stream.read_all.Given as goal

-- the bytes were taken, at least one a turn and no more than the limit, and the count has not fallen
pub record Reads (left left' : Option (List ℕ)) (faults faults' turn : ℕ) (bytes : List ℕ) : Type 0
  where
    pub taken : Consumes left left' bytes
    pub enough : turn ≤ length bytes
    pub within : length bytes ≤ INPUT_LIMIT
    pub later : faults ≤ faults'

abbrev pub invariant-reading : goal.invariant-reading
invariant-reading g l =
    Reads (g.S.Source.left l.fn.source) (g.S.Source.left l.source) (g.S.Source.faults l.fn.source)
    (g.S.Source.faults l.source) l._turn l.bytes.items
