pub mod Pins
pub mod Primes
pub mod Conditions
