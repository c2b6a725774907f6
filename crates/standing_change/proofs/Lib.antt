mod NewNetlist
mod Promise
pub mod CallList
mod Call
pub mod Bounds
mod RunsLaws
mod Again
