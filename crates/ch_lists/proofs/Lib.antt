-- The lemmas on lists in one array: their places, what edits of one list leave as it is, and how they are moved together.
pub mod Found
pub mod Placed
pub mod Taken
pub mod Listed
pub mod Closed
pub mod Moved
pub mod Edited
pub mod Changed
pub mod Read
pub mod Handed
pub mod Skipped
