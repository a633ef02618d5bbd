pub mod Bench
pub mod Laws
pub mod Demand3
