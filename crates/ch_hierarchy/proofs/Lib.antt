-- The lemmas on hierarchies: those on kept and saved hierarchies, and those for the code.
pub mod theory
pub mod code
