pub mod Closed
pub mod Devices
