pub mod Trails
pub mod Values
mod Paths
mod CellRows
mod Rows
mod Example
mod Planned
mod Reached
pub mod Laws
