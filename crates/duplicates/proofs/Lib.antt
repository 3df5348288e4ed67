pub mod Turns
pub mod Entries
pub mod Scans
pub mod Found
pub mod Cases
