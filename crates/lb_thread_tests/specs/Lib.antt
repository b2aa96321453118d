pub mod Drawing
pub mod Machines
pub mod Seats
