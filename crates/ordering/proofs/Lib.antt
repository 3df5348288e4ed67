pub mod Words
pub mod Walks
pub mod Writes
pub mod Steps
pub mod Along
pub mod Passes
