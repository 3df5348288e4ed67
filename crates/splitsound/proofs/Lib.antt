pub mod Order
pub mod Told
