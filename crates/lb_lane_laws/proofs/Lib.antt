pub mod Courses
pub mod Sources
pub mod Masks
pub mod Lanes
pub mod Crossing
