pub mod Ways
pub mod Crossed
pub mod Steps
pub mod Told
pub mod Cases
