pub mod Words
pub mod Names
pub mod Files
pub mod Guarding
pub mod Opening
pub mod Outlets
pub mod Outputs
