pub mod Certificates
pub mod Printing
pub mod Explaining
pub mod TextStages
