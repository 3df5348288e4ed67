pub mod Kept
pub mod Stops
pub mod Measured
