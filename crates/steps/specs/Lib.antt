pub mod Fed
pub mod OneStep
