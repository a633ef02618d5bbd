pub mod Listing
pub mod Laws
pub mod Whole
pub mod Report
pub mod Bench
