pub mod Appended
pub mod Grows
pub mod Put
