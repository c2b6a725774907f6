mod Tables
mod Fields
pub mod Bounded
mod GroupRows
mod Groups
mod EntryLines
