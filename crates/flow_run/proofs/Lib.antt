pub mod BlankTables
pub mod WorkerStateLaws
pub mod ReadyWorkers
pub mod TakenFrom
pub mod Turning
pub mod WiredPipes
pub mod StartedWorkers
mod Arranged
mod Closing
mod EndsOut
mod Finished
mod Sendable
mod RunsOfWorkers
mod WorkersInTurn
mod WorkerLists
mod StartedJobs
