pub mod Decimal
pub mod Answer
pub mod Rest
pub mod Bench
