pub mod Gone
pub mod Lost
pub mod Edge
pub mod InOrder
pub mod Steps
pub mod Told
