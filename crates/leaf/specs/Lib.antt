pub mod Fit
pub mod Alone
pub mod Turns
