-- What an arena ends as, where a `&mut` to one of its items is returned.
use Rattle.std.specs.Prelude.{ℕ, List, slice_set}
use Rattle.std.specs.Borrow.{Lends, Fml, RattleType, MutBor}
use Rattle.plan_arena.specs.contracts.arena.Arena.{the_row}

-- once the borrow ends, the node has the last value written through it, and no other item has changed
abbrev pub LendsItem : (T : RattleType) → MutBor (List T.Denot) → ℕ → MutBor T.Denot → Fml
LendsItem T arena n item = Lends (the_row T) T arena item (slice_set arena.now n)
