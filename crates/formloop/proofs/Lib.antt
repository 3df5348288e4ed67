pub mod Told
pub mod Cases
