mod Sweeps
pub mod Rest
mod Run
pub mod Observed
pub mod Turned
pub mod Padded
mod TurnTimes
mod RowsLaws
pub mod Remembered
mod Marks
mod VisitsLaws
mod Turns
mod Wakes
