-- The definitions of customization: lowered legs, topologies, and legs over a topology.
pub mod Ancestors
pub mod Customizing
pub mod Divisions
pub mod Exact
pub mod LegPairs
pub mod Metric
pub mod Topologies
pub mod Opening
pub mod Pairs
pub mod Parts
pub mod Pruning
pub mod Triangles
