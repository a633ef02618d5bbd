pub mod Words
pub mod Text
pub mod Lines
pub mod Bench
