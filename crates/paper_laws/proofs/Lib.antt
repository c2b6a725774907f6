pub mod PlanCost
pub mod PlanRead
pub mod Topmost
pub mod Headings
pub mod Laws
