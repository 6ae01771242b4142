-- The definitions of places of lists in one array, and of packed lists.
pub mod Places
pub mod Packing
