-- When sources and sinks of bytes may answer a fault, and the states of those in memory.
use Rattle.std.specs.Prelude.{ℕ, ◌+◌, ◌-◌, ◌^◌, ◌<◌, ◌≤◌, min, List, length, IfOk, OnErr, if◌then◌else◌, nat_le, Result}

-- one more, up to the last value of a count
abbrev pub one_more : ℕ → ℕ
one_more n = min (n + 1) (2 ^ 64 - 1)

-- a count of faults rose, or stands at its last value
abbrev pub Rose : ℕ → ℕ → Type 0
Rose before now = one_more before ≤ now

-- a count of faults has not fallen, and a failure raised it
pub record HasCause {T E : Type 0} (before now : ℕ) (result : Result T E) : Type 0 where
  pub later : before ≤ now
  pub failed : OnErr result (Rose before now)

-- of a piece with bytes, a write takes at least one
abbrev pub TakesSome : {E : Type 0} → Result ℕ E → List ℕ → Type 0
TakesSome result piece = IfOk result (λ n. 0 < length piece → 0 < n)

-- a source in memory: the bytes to come, the most that one read gives, how many reads were made, the
-- numbers of those that fail, and how many failed
pub record SourceState : Type 0 where
  pub left : List ℕ
  pub step : ℕ
  pub calls : ℕ
  pub failing : List ℕ
  pub faults : ℕ

-- a sink in memory: the bytes written, how many it has room for, the most that one write takes, how
-- many writes were made, the numbers of those that fail, and how many failed
pub record SinkState : Type 0 where
  pub written : List ℕ
  pub room : ℕ
  pub step : ℕ
  pub calls : ℕ
  pub failing : List ℕ
  pub faults : ℕ

-- a sink that fails only where it is full: the bytes written, how many it has room for, and how many
-- writes it refused
pub record PlainSinkState : Type 0 where
  pub written : List ℕ
  pub room : ℕ
  pub refused : ℕ

-- no room is left
abbrev pub IsFull : PlainSinkState → Type 0
IsFull s = s.room ≤ length s.written

-- the faults of such a sink, of which it has none before it is full
abbrev pub plain_faults : PlainSinkState → ℕ
plain_faults s = if nat_le s.room (length s.written) then s.refused else 0

-- a sink that grows: the bytes written, and how many writes failed
pub record GrowingSinkState : Type 0 where
  pub written : List ℕ
  pub faults : ℕ

-- a reader or a writer of std, and how many of its calls failed
pub record AdapterState (I : Type 0) : Type 0 where
  pub inner : I
  pub faults : ℕ
