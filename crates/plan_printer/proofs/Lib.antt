pub mod RisingFields
pub mod ListedFields
pub mod LinesSoFar
pub mod PartialsLines
