pub mod Scan
pub mod Promise
