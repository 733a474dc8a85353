-- The definitions that contracts of the rounds name.
pub mod Mbufs
pub mod Rounds
