pub mod FoundByCode
pub mod GrownBuckets
pub mod StoredRows
