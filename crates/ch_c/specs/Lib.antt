-- The definitions of what the calls for C answer, and of an engine or a topology behind a pointer without a type.
pub mod Calls
pub mod Erased
pub mod ErasedTopology
pub mod Topologies
