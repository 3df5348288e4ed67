pub mod Search
pub mod Triangle
pub mod Right
