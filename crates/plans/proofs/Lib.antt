mod Numbers
mod Lowered
mod Kept
mod Exactness
mod Settled
mod BothRules
mod Idle
mod Without
mod Bounds
mod Stages
mod Comparison
mod Budget
mod SettledRow
mod Continued
mod Alike
mod Worked
pub mod Laws
