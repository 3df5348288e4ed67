pub mod Turns
pub mod Lines
pub mod Right
pub mod Laid
pub mod Told
pub mod Front
pub mod Cases
