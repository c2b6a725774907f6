pub mod Loops
pub mod Values
pub mod Built
pub mod Never
pub mod Example
