pub mod Chosen
pub mod Took
pub mod Guarding
pub mod Opened
