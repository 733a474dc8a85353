pub mod Joins
pub mod Widening
pub mod Inference
pub mod Laws
