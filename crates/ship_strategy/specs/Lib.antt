pub mod Facts
pub mod Ships
pub mod Layouts
pub mod Views
pub mod PlanFacts
pub mod EarlierFindings
pub mod Meets
