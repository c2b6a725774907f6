mod Number
mod Call
pub mod ReportCode
pub mod Cells
pub mod Plan
pub mod Stand
pub mod Best
pub mod Advice
pub mod Change
mod QualifiesLaws
