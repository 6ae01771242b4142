-- The lemmas on an indexed binary heap: its order, the entries and the places that point to each other, and its least entry.
pub mod Lists
pub mod Heaps
pub mod Links
pub mod Order
pub mod Indexed
