-- Definitions that contracts cite.
pub mod Filters
pub mod Sums
