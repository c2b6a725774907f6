pub mod Order
pub mod Runs
pub mod Asleep
pub mod Fits
pub mod Halves
