-- What reading a source to its end takes from it, by how it ended.
use Rattle.std.specs.Prelude.{◌≡◌, ℕ, ◌+◌, ◌≤◌, List, length, ⊤}
use Rattle.std.specs.declared.option.Option.{Option}
use Rattle.std.specs.Io.KnownBytes.{Consumes}
use Rattle.byte_streams.specs.declared.stream.TheConstants.{INPUT_LIMIT}
use Rattle.byte_streams.specs.declared.stream.ReadOutcome.{ReadOutcome}
use Rattle.byte_streams.specs.declared.stream.ReadOutcome.TheVariants.{Bytes, Fault, TooLong, NoMemory}

-- `P` of the bytes read, where the whole input was
abbrev pub IfBytes : ReadOutcome → (List ℕ → Type 0) → Type 0
IfBytes (Bytes bytes) P = P bytes.items
IfBytes Fault P = ⊤
IfBytes TooLong P = ⊤
IfBytes NoMemory P = ⊤

-- the bytes taken from a source are a front of what it had, where that is known, and `P` holds of them
abbrev pub Took : Option (List ℕ) → Option (List ℕ) → (List ℕ → Type 0) → Type 0
Took old new P = (taken : List ℕ) × (Consumes old new taken × P taken)

-- the bytes taken: those read, or one too many, or no more than the limit
abbrev pub TakenBy : ReadOutcome → List ℕ → Type 0
TakenBy (Bytes bytes) taken = taken ≡ bytes.items
TakenBy Fault taken = length taken ≤ INPUT_LIMIT
TakenBy TooLong taken = length taken ≡ INPUT_LIMIT + 1
TakenBy NoMemory taken = length taken ≤ INPUT_LIMIT
