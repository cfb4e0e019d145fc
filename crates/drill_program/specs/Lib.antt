pub mod Drill
pub mod Summary
