pub mod Plain
pub mod Collapsed
