-- The lemmas on the construction of a hierarchy: depths, priorities, steps, and what the calls of one contraction leave.
pub mod Depths
pub mod KeyBounds
pub mod PrioritySteps
pub mod StepsMade
pub mod ConstructionCalls
pub mod KeptPriorities
pub mod GivenTurns
pub mod GivenCalls
pub mod QuickSteps
