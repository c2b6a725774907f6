pub mod Places
pub mod UsedPart
