pub mod FoundText
pub mod SetsText
pub mod PlanText
pub mod CountsText
