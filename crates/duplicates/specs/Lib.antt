pub mod Scan
pub mod Fans
