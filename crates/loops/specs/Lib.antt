pub mod Loops
pub mod Edges
