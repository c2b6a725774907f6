pub mod Slices
pub mod StandingTable
mod Pads
pub mod TextsLaws
