pub mod Shape
pub mod Sound
pub mod Emptied
pub mod Grown
