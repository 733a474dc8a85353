-- Lemmas about ways and costs.
pub mod Bounds
pub mod Running
pub mod Ways
