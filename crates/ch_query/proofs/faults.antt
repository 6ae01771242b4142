-- The lemmas on the faults of a saved hierarchy.
pub mod FirstFailing
pub mod LegCosts
pub mod ArcRows
pub mod Pairs
pub mod Firsts
pub mod Checked
