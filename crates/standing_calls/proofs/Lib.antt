pub mod Meaning
pub mod Promise
pub mod Analysis
pub mod Calls
pub mod Bounds
