pub mod Versions
pub mod History
pub mod Shown
pub mod Copies
