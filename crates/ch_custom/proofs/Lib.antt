-- The lemmas on topologies and customization.
pub mod theory
