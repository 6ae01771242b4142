-- The definitions of shared work: pieces, the rule of a board, steps, passes and claims, and weights that are owed.
pub mod Plan
pub mod Pieces
pub mod Counts
pub mod Rule
pub mod Steps
pub mod Passes
pub mod Claims
pub mod Owed
