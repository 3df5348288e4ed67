pub mod Turns
pub mod Kept
pub mod Told
pub mod Stops
