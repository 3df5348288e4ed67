pub mod Plain
pub mod Ways
pub mod Collapsed
pub mod InOrder
pub mod Told
pub mod Done
pub mod Cases
