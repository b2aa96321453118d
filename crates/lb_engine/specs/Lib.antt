pub mod Held
pub mod Inside
pub mod Steps
pub mod Asks
pub mod Leaves
pub mod Ending
pub mod Takes
