pub mod Any
pub mod Bounds
pub mod Laws
pub mod Names
pub mod Places
pub mod Columns
