pub mod Bytes
pub mod Class
pub mod Lines
pub mod Numeral
