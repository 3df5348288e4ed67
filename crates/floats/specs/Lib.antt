pub mod Vectors
pub mod Short
