-- The definitions that contracts of layers_tests name.
pub mod Copied
pub mod Rows
