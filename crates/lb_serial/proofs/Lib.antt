pub mod Next
pub mod Draws
pub mod Starting
