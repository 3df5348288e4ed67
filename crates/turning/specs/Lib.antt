pub mod Fan
pub mod Walk
