pub mod FormLoop
