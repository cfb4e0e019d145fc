pub mod ProgramLines
pub mod ProgramReads
pub mod WrittenPrograms
pub mod ReadLoop
