pub mod Release
pub mod Sums
