pub mod Entry
pub mod Groups
pub mod Passes
pub mod Headers
pub mod Walk
