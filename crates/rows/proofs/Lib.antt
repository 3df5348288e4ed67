pub mod Columns
pub mod Threes
pub mod Agree
