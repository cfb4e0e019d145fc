mod TablesByNumber
mod QueuedInstancesAtPlaces
mod EnabledEvents
mod WorldsAfterEvents
pub mod SharesOfRows
mod StartStands
pub mod StartedInstances
mod LongestShares
mod ReplayedEvents
mod EventsOfWants
mod PlacedRows
mod FinishedWorlds
mod RunAlone
mod WorldLaws
mod ReadersOfEdges
mod ChangedQueuedInstances
pub mod LeftWorlds
mod KeptMarks
mod PickedEvents
