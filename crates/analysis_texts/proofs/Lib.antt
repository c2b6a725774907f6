mod EntryChecks
mod NetlistRead
pub mod Reached
mod Own
pub mod Calls
