pub mod WholeSums
