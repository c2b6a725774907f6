pub mod Words
pub mod Tabled
