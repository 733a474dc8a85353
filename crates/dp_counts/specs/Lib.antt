pub mod Counting
pub mod Listings
pub mod Totals
pub mod Report
