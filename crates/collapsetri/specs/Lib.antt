pub mod CollapseTri
