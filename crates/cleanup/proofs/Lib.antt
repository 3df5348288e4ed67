pub mod Split
pub mod Settled
pub mod Told
