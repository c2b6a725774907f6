pub mod Runs
pub mod Asleep
pub mod Bridge
pub mod Lines
pub mod FourRuns
