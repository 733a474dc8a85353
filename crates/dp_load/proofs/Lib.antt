-- Lists the lemma files.
pub mod Digits
pub mod Each
pub mod Elements
pub mod Environments
pub mod Gathered
pub mod Loaded
pub mod Named
pub mod Indices
pub mod Planned
pub mod Taking
pub mod SinglePlans
pub mod Regions
