-- What the contracts of this crate cite.
pub mod ColumnFunctions
pub mod Evaluations
pub mod LaidFrames
