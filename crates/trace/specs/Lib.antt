pub mod Answers
pub mod Extents
pub mod Fields
pub mod Kinds
pub mod Laid
