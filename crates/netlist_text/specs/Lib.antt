pub mod Reader
pub mod Gathered
