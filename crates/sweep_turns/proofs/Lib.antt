pub mod Wakes
mod Turns
pub mod Groups
pub mod VisitsLaws
