pub mod Entry
pub mod Agree
