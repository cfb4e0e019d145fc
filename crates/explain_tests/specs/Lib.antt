pub mod SameWork
