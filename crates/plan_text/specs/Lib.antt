pub mod PlanText
pub mod Writers
pub mod Plan
pub mod Asked
