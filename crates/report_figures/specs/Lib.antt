pub mod Entries
pub mod Figures
pub mod Left
