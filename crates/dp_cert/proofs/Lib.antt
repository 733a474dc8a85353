-- Lists the lemma files.
pub mod Parts
pub mod Loop
pub mod Rows
pub mod Found
pub mod RowBytes
pub mod Again
pub mod LineFaults
pub mod Faulty
pub mod Heads
pub mod Versions
