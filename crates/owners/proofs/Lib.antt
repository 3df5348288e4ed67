pub mod Listing
pub mod Found
pub mod Told
pub mod Cases
