pub mod Bench
pub mod Laws
pub mod Paper
pub mod Theorems
