pub mod Calls
pub mod Parts
pub mod Promise
pub mod CallList
pub mod RunParts
