pub mod Rows
pub mod Spans
pub mod Faults
pub mod Machines
