pub mod Feeding
pub mod Records
