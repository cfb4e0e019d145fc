pub mod TextParts
pub mod Samples
pub mod Vocabulary
pub mod Marks
pub mod LineParts
pub mod Scanning
pub mod Expecting
