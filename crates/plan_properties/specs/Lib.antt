-- What the contracts of this crate cite.
pub mod Asking
pub mod Laws
pub mod Properties
pub mod Samples
pub mod Splitting
