pub mod CertificateEnds
pub mod ChosenTexts
pub mod CommandsRun
pub mod DecidedStages
pub mod Drills
pub mod IterationsRun
pub mod KeptPromises
pub mod OnlyBag
pub mod RowCounts
pub mod RunPlans
pub mod SourceNames
pub mod StatusesOfRefusals
pub mod WrittenParts
mod KeptLines
