pub mod Calls
pub mod Texts
pub mod Promise
pub mod Parts
