pub mod Net
pub mod Counts
pub mod Sound
pub mod Grown
