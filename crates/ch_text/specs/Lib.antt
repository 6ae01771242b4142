-- The definitions of devices by their calls, and of the texts of answers, tables, near rows and hierarchies.
pub mod Steps
pub mod Calls
pub mod Device
pub mod Moves
pub mod Told
pub mod Distances
pub mod Routes
pub mod RowTexts
pub mod TableText
pub mod NearText
pub mod SaveText
