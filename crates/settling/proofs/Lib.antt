pub mod Appended
pub mod Grows
pub mod Kept
pub mod Entry
pub mod Extents
