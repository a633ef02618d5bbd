pub mod Zeros
pub mod Asked
