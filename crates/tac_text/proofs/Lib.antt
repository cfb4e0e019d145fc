pub mod FaultlessWords
pub mod StatementWords
pub mod FunctionReads
pub mod HeaderWords
pub mod BodySteps
pub mod WrittenFunctions
