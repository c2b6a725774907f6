pub mod Outcome
pub mod Walk
pub mod Same
pub mod Records
pub mod Steps
