pub mod Parts
pub mod Emptied
pub mod Told
pub mod Cases
