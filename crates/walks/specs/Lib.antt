pub mod Walk
pub mod Way
