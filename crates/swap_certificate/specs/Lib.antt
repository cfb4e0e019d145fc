pub mod PlanLines
pub mod Checks
pub mod Shape
pub mod RisingData
pub mod FaultTexts
