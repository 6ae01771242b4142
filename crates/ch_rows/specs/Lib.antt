-- The definitions of rows: buckets, tables, the sums that nodes owe to cells, and near rows.
pub mod Buckets
pub mod Cells
pub mod Dealing
pub mod First
pub mod Kept
pub mod LeastSums
pub mod Near
pub mod NearLaws
pub mod Offers
pub mod Owed
pub mod Rooms
pub mod Searched
pub mod Sums
pub mod Sweep
pub mod Table
