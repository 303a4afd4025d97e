pub mod LoweredLemmas
pub mod VerdictLemmas
