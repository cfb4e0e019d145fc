pub mod Answers
pub mod Loading
pub mod NamedSources
pub mod Pieces
pub mod Readers
pub mod Readings
pub mod RefusalLines
pub mod Stages
