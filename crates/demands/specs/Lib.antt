pub mod Outcome
pub mod Call
pub mod Demands
pub mod Answer
pub mod Own
pub mod Printed
