pub mod Written
pub mod Steps
pub mod Exact
pub mod Told
