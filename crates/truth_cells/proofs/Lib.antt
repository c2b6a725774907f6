pub mod Steps
pub mod Held
pub mod Truth
pub mod Laws
