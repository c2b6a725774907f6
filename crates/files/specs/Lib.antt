pub mod Loads
pub mod Output
