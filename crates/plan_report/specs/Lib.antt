-- What the contracts of this crate cite.
pub mod Casts
pub mod Report
pub mod Samples
pub mod Texts
