pub mod Copied
pub mod Copy
pub mod Kept
pub mod Padded
