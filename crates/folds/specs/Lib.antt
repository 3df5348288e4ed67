pub mod Folds
pub mod Triangles
