pub mod Law
pub mod Tests
pub mod Entries
pub mod Told
