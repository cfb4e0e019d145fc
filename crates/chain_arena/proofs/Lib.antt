pub mod Lists
pub mod Placing
pub mod Listed
pub mod Linking
pub mod LinkFacts
pub mod ArenaFacts
pub mod MovedItems
