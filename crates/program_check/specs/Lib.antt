pub mod AttributeTests
pub mod Candidates
pub mod Checks
pub mod ProgramRules
pub mod RuleTests
pub mod PlanReads
pub mod WrittenOps
pub mod NameTables
