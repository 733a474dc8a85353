pub mod Entries
pub mod Searching
pub mod Writing
pub mod Turning
