-- The definitions of a construction, its priorities and its steps, one node after the other.
pub mod Construction
pub mod Crowded
pub mod Priorities
pub mod Progress
pub mod Quick
pub mod Steps
pub mod LikeErrors
pub mod OrderText
