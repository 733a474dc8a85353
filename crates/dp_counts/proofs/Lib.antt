pub mod Tallies
pub mod Flows
pub mod Lines
pub mod Runs
