pub mod EmitSums
