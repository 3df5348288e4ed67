pub mod Integers
pub mod Stretches
