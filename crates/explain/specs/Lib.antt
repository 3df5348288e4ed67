pub mod Explain
pub mod Clauses
pub mod Answer
