pub mod Run
pub mod Steps
pub mod Settle
pub mod Entries
