mod Opens
mod Copy
mod Split
pub mod Pads
