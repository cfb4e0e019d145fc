pub mod RowsScanned
pub mod RowNumbers
