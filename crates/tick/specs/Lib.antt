pub mod Clocks
pub mod Passing
