-- Lists the lemma files.
pub mod Bytes
pub mod Lodging
pub mod Rights
pub mod Rows
pub mod Shared
pub mod Shells
pub mod Spans
pub mod Steps
pub mod Unlent
pub mod Vecs
pub mod Words
