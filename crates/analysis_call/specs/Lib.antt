pub mod Own
pub mod Finished
pub mod Printed
