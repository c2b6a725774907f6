pub mod Roles
pub mod Rows
pub mod Gathered
pub mod Named
pub mod RowWays
pub mod Bridge
pub mod Gone
pub mod Dominated
