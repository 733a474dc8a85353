-- Lists the lemma files.
pub mod Objects
pub mod Packets
pub mod Rounds
