pub mod Machine
pub mod Registers
