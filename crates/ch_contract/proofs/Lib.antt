-- The lemmas on contraction: those on legs as functions, and those for the code.
pub mod theory
pub mod code
