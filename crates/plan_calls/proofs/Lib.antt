pub mod Promise
pub mod Printed
mod EndLaws
