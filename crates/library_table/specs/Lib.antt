pub mod Cells
pub mod Layout
pub mod Library
pub mod Sound
