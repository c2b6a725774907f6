pub mod Refused
pub mod Buffer
pub mod Put
pub mod Digits
pub mod Decimal
pub mod Octal
