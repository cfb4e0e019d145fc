pub mod Loops
pub mod Starts
pub mod InputRecords
pub mod LentRecords
pub mod Emissions
pub mod FilledRegisters
pub mod HeldRecords
