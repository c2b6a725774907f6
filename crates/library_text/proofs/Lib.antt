mod Laws
mod Passes
mod Stores
mod Entries
mod Headers
mod LineStores
pub mod Walks
