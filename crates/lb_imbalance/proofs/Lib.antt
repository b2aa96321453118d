pub mod Groups
pub mod Statistics
pub mod Idle
pub mod Chosen
pub mod TwoGroups
