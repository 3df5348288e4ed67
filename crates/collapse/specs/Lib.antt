pub mod CollapseEdge
