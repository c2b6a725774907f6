pub mod Generated
pub mod Bounded
pub mod Printed
