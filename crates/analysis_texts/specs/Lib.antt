pub mod Progress
pub mod Tables
