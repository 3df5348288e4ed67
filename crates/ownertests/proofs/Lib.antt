pub mod Below
pub mod Points
pub mod Fan
pub mod Owns
pub mod Right
