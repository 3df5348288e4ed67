pub mod Told
pub mod Settled
