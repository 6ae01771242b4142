-- The lemmas on shared work: pieces and their values, steps on a board, views of passes, and weights that are paid.
pub mod Items
pub mod Values
pub mod PieceLists
pub mod Totals
pub mod Moves
pub mod Ends
pub mod Gathers
pub mod Claims
pub mod Payments
pub mod Pays
