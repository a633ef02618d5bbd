pub mod View
pub mod First
pub mod Cut
pub mod Reach
pub mod Lit
pub mod Leaves
