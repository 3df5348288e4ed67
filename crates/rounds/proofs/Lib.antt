pub mod Grown
pub mod Steps
pub mod Cases
