-- What the contracts of this crate cite.
pub mod Changes
pub mod Names
pub mod Refusals
pub mod Walks
