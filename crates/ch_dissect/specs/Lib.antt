-- The definitions of rows of neighbours, of flows through a part, and of orders that are being made.
pub mod Flows
pub mod Orders
pub mod Rows
