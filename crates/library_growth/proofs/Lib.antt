pub mod Pairs
pub mod Held
