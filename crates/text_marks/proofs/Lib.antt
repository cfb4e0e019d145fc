pub mod TextBounds
pub mod WordNeighbours
pub mod WordOrder
pub mod Trying
pub mod LineScans
pub mod FaultPlaces
pub mod Listing
