pub mod Making
pub mod Once
pub mod Pools
pub mod Queues
