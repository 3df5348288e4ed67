pub mod Back
pub mod Told
pub mod Cases
