-- The definitions of the command line.
pub mod Line
pub mod Options
