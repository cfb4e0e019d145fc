pub mod Needs
pub mod NeedTables
pub mod KeepFunctions
pub mod Insertions
pub mod PrunedPlans
pub mod SameAnswers
