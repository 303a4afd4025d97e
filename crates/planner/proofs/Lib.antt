pub mod ArenaLemmas
pub mod PredicateLemmas
pub mod QueryLemmas
pub mod SplitLemmas
pub mod StandsLemmas
