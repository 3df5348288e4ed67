pub mod Nans
pub mod Agree
pub mod Cases
