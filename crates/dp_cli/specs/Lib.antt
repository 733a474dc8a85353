pub mod Commands
pub mod Runs
pub mod Sizes
pub mod Stops
