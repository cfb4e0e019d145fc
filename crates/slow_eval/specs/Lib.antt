pub mod Keyed
pub mod GivenRows
