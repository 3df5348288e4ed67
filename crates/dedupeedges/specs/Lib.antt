pub mod DedupeEdges
