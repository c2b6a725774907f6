mod Declared
mod EntryChecks
pub mod Walk
mod Forms
