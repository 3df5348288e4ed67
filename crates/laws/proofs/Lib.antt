pub mod Tests
pub mod Integers
pub mod Stretches
pub mod Loops
