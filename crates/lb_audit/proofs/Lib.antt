pub mod Ranges
pub mod Steps
pub mod Faults
pub mod Last
