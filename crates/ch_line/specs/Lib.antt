-- The definitions of the files of a line, and of the inputs of its run.
pub mod Files
pub mod Inputs
pub mod Line
