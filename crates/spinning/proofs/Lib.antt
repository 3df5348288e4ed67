pub mod Turns
pub mod Vertices
pub mod Kept
