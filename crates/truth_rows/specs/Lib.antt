pub mod Masks
pub mod Asked
