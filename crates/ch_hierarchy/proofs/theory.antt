-- The lemmas on kept and saved hierarchies.
pub mod Ordered
pub mod NoLeg
pub mod Turned
pub mod LegPaths
pub mod MeetingPaths
pub mod LegWalks
pub mod KeptWalks
pub mod SavedLevels
pub mod OneSaved
pub mod NamedLegs
pub mod SavedFaults
pub mod LevelOrder
pub mod WrittenLegs
pub mod Decided
pub mod LeastUpward
pub mod NamedByLegs
pub mod Faultless
