pub mod CastLemmas
pub mod NodeLemmas
pub mod OnLiterals
pub mod PlainLemmas
pub mod TextLemmas
