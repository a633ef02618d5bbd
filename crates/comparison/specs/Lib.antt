pub mod Compare
pub mod Theorems
pub mod Paper
pub mod Bench
