pub mod PlanFigures
pub mod RouteFigures
