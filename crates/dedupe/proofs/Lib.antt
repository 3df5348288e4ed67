pub mod Stops
pub mod Grown
pub mod Cases
