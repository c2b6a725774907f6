pub mod Steps
pub mod Queued
