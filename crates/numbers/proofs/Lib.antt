pub mod Names
pub mod NextLaws
pub mod Agree
