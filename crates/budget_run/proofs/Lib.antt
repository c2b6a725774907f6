pub mod Offers
pub mod Bids
pub mod Step
pub mod Runs
