-- The lemmas on the way back, and on the arcs that legs stand for.
pub mod Rows
pub mod PendingLegs
pub mod Unpacked
pub mod UnpackingSteps
pub mod DescentLaws
pub mod DescentSteps
pub mod RouteArcs
pub mod RouteWalks
pub mod RouteAnswers
pub mod Replies
pub mod SearchTrees
pub mod MarkedSteps
pub mod MarkedWays
