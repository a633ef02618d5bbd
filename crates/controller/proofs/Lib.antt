pub mod Begin
pub mod Vrates
pub mod Anew
pub mod Weighing
pub mod SoundTrees
