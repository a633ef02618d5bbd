pub mod Sharing
pub mod Steps
