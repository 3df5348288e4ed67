pub mod DedupeEdge
