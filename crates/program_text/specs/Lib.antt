pub mod DeclarationWords
pub mod DeclarationFaults
pub mod FirstLines
pub mod ProgramTexts
pub mod ProgramStates
