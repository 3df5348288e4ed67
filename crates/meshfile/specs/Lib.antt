pub mod Format
pub mod Steps
pub mod Told
