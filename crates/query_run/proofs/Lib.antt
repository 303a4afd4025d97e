pub mod AnswerLemmas
pub mod EndingLemmas
pub mod TextLemmas
