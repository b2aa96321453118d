pub mod Lines
pub mod Commands
pub mod Balancing
pub mod Requests
pub mod Faults
pub mod Lanes
