mod Drawing
pub mod Machines
