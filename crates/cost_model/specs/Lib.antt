pub mod Estimates
pub mod Costs
