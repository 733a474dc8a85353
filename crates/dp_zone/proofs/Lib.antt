pub mod Apart
pub mod Positions
pub mod Tables
