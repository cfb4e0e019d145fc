pub mod Registers
pub mod RegistersInRange
pub mod Views
pub mod Liveness
pub mod Accumulators
pub mod OrderFree
pub mod Permutes
