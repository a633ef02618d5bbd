pub mod Shapes
pub mod Rulings
pub mod Decisions
