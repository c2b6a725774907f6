mod Steps
mod Marks
mod Levelled
mod Order
mod Held
mod OneReader
pub mod Laws
