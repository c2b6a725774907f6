pub mod Promise
pub mod Printed
pub mod Concluded
