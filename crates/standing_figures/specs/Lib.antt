pub mod Pads
pub mod Changes
