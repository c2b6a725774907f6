pub mod Tables
pub mod Entries
pub mod Generated
pub mod Rows
pub mod Statements
