pub mod Kept
pub mod Cases
pub mod Stops
