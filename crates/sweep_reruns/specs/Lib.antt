pub mod Kept
pub mod Trial
