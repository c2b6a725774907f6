pub mod BuiltIn
pub mod Figures
