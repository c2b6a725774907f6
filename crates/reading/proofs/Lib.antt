pub mod Bounds
pub mod Causes
pub mod Laws
