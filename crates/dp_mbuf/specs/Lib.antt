-- The definitions that contracts of dp_mbuf name.
pub mod Headers
pub mod Numbers
pub mod Limits
pub mod Objects
pub mod Mbufs
pub mod Steps
pub mod Alone
