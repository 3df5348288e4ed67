pub mod Steps
pub mod Split
pub mod Promise
pub mod Told
pub mod inner
