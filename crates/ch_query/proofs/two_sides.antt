-- The lemmas on two sides of a query together.
pub mod MeetingSteps
pub mod LeastMeeting
pub mod Distances
pub mod SharedSums
pub mod WeighedSearches
pub mod ConnectedSearches
