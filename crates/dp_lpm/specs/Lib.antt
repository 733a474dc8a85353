-- The definitions that contracts of dp_lpm name.
pub mod Cells
pub mod Changes
pub mod Faults
pub mod Kept
pub mod Limits
pub mod Routes
pub mod Rules
pub mod Tables
