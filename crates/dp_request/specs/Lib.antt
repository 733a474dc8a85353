pub mod Operands
pub mod Reading
