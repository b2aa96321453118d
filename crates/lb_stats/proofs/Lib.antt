pub mod Flags
pub mod Rows
pub mod Running
