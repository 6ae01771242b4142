-- The lemmas on queries: one side of a search, both sides together, routes, searches by weights alone, and faults.
pub mod one_side
pub mod two_sides
pub mod routing
pub mod faults
pub mod by_weight
