-- The definitions of flows.
pub mod Flows
pub mod Handing
pub mod Links
pub mod Layouts
pub mod Plans
pub mod Gathering
pub mod Trees
pub mod Meetings
pub mod Found
pub mod Cells
