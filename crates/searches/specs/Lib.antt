pub mod Seek
pub mod Duplicates
