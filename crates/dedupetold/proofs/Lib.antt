pub mod Ends
pub mod Edge
pub mod Edges
pub mod Cleaned
