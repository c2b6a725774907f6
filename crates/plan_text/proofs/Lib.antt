pub mod Writers
pub mod Times
pub mod ChosenRow
pub mod Planned
pub mod Figure
pub mod Written
pub mod Padded
pub mod Route
