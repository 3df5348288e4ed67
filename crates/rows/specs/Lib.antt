pub mod Halfedges
pub mod Triples
