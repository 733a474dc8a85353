-- The definitions that contracts of dp_pipe name.
pub mod Devices
pub mod Forwarding
pub mod Laws
pub mod Running
pub mod Headline
pub mod Tracing
pub mod Watched
