pub mod Packing
pub mod Calls
pub mod Hosts
pub mod Bursts
pub mod Laws
pub mod Costs
