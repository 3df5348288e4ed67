pub mod Appends
pub mod Rooms
pub mod Numbers
pub mod Puts
pub mod Cases
