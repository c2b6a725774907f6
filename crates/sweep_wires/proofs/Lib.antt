pub mod Any
pub mod Masks
pub mod Gone
pub mod RowBits
pub mod Cells
