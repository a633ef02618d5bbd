pub mod Clocks
pub mod Going
pub mod Answers
