pub mod DrillKept
pub mod DrillRows
pub mod DrillFree
pub mod DrillProgram
mod MadeProgram
mod WorkedSummaries
