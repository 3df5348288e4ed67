pub mod Dedupe
