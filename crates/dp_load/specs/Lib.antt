-- The definitions that contracts of dp_load name.
pub mod Causes
pub mod Config
pub mod Files
pub mod Keys
pub mod Laws
pub mod Listed
pub mod Loads
pub mod Nodes
pub mod Pipelines
pub mod Routes
pub mod Setup
pub mod Singles
pub mod Surveys
pub mod Views
