pub mod Buffer
pub mod Steps
mod Digits
pub mod Decimal
pub mod Octal
mod Passed
