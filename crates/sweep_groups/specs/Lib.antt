pub mod Tables
pub mod Fits
pub mod Sums
pub mod Gone
pub mod Roles
