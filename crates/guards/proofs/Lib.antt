pub mod Bounds
pub mod InUse
pub mod Readings
pub mod Exports
