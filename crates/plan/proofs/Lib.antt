pub mod Turns
pub mod Steps
