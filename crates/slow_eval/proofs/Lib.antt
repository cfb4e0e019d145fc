pub mod CallsOfOperators
pub mod PlanCounts
pub mod KnownKeys
