pub mod Leaving
pub mod Walking
pub mod Scanning
pub mod Having
