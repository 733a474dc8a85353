-- The definitions that contracts of dp_cost name.
pub mod Costs
