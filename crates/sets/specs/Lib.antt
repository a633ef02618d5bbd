pub mod Lowest
pub mod Members
pub mod Visit
