pub mod Walk
pub mod Scan
