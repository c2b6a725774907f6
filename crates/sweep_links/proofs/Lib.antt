pub mod Lines
mod Bits
mod Turns
mod AwakeLines
