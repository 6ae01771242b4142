-- The definitions of hierarchies: their rows and paths, which of them are right for a graph, and saved ones.
pub mod Rows
pub mod Hierarchy
pub mod Ranked
pub mod Side
pub mod Direction
pub mod Paths
pub mod Kept
pub mod Saved
pub mod FaultText
pub mod Placing
pub mod Sorting
pub mod Doubles
pub mod Assembling
pub mod Written
pub mod SavedLaws
pub mod KeptLaws
pub mod Turned
