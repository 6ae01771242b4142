-- The lemmas for the code.
pub mod SortedPlaces
pub mod Doubled
pub mod OrderedPlaces
pub mod OrderLevels
pub mod PairFaults
pub mod PlacedRows
pub mod PushedRows
pub mod Ranked
