pub mod StandingTable
pub mod Held
pub mod Parts
