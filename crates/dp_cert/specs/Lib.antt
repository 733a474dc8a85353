-- The definitions that contracts of dp_cert name.
pub mod Spelling
pub mod Faults
pub mod Reading
