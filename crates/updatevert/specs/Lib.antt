pub mod UpdateVert
