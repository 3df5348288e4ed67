-- Inner words, for the proofs of the code alone: no contract of an entry names them, and nothing is claimed by them.
pub mod Given
