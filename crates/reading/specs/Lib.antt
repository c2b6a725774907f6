pub mod Answer
pub mod Cause
pub mod Choice
pub mod Each
pub mod Numbers
pub mod Refusal
