pub mod LeftStatements
pub mod Refusals
pub mod Turns
pub mod WalksOfBodies
