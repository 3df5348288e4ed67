pub mod Collapse
