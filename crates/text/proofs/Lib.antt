pub mod Cursors
pub mod Laws
mod Steps
pub mod FieldLaws
mod FieldSteps
