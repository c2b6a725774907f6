pub mod Lowered
pub mod Runs
pub mod Rows
pub mod Marks
pub mod Visits
