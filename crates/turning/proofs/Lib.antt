pub mod Least
pub mod Pigeon
pub mod Count
pub mod Occ
pub mod Orbit
pub mod Walk
pub mod Fans
