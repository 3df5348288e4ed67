pub mod Gots
pub mod Turns
pub mod Glyphs
pub mod Right
pub mod Cases
pub mod Quoted
