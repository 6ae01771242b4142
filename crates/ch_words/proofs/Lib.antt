-- The lemmas on the matches of the command line.
pub mod Matches
pub mod Rows
