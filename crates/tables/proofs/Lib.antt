pub mod Least
pub mod Tabling
