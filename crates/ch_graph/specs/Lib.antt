-- The definitions of graphs, costs, walks and rows, and the laws of costs and walks.
pub mod Cost
pub mod CostLaws
pub mod Graph
pub mod Walk
pub mod WalkLaws
pub mod Relaxing
pub mod Rows
pub mod Sorting
pub mod Saved
