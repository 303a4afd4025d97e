pub mod Bounds
pub mod Counts
pub mod Laws
pub mod LoweredPlans
pub mod PlanCounts
pub mod PlanLaws
pub mod Samples
