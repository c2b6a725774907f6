mod Told
mod EndLaws
pub mod Promise
mod PrintedLaws
