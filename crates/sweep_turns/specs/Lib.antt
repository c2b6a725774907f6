pub mod Wakes
pub mod Fits
pub mod Order
pub mod Renewed
pub mod VisitFits
