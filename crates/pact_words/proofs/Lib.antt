pub mod AskedOrRefused
mod FittingRows
mod GivenValues
pub mod NumbersInRange
pub mod OneAsked
mod SaidValues
mod TakenWords
