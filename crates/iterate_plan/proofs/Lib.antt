pub mod CutRows
pub mod OneIteration
pub mod RoundLaws
pub mod SortedBags
