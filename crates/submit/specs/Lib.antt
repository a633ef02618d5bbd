pub mod OnLeaf
pub mod Decision
