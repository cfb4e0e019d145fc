pub mod Grouped
pub mod Listed
