pub mod UniqueRows
pub mod OtherSides
