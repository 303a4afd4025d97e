-- What the contracts of this crate cite.
pub mod Arguments
pub mod Bytes
pub mod Errors
pub mod Faults
pub mod Forms
pub mod Leaves
pub mod Looking
pub mod Queries
pub mod Readers
pub mod Samples
pub mod Tables
