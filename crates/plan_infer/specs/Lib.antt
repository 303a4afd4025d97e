-- What the contracts of this crate cite.
pub mod Fields
pub mod ItemTrees
pub mod KeptTypes
pub mod Operands
pub mod Samples
pub mod TakenTypes
pub mod Typed
