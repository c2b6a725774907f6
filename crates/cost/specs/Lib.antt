pub mod Cost
pub mod Order
pub mod Kind
