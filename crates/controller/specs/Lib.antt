pub mod Rows
pub mod Begun
