-- The lemmas on the files of a job: how opening them ends, and what the story of the run over them tells.
pub mod Opening
pub mod Paired
pub mod Told
