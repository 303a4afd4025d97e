pub mod BoundLemmas
mod CountLemmas
mod PartLemmas
mod SpelledLemmas
mod StrictLemmas
pub mod WideLemmas
