pub mod Chain
pub mod Good
pub mod Lanes
pub mod Items
pub mod Agreement
pub mod Stepping
pub mod Resting
pub mod Using
pub mod Standing
pub mod Merging
pub mod Bridge
pub mod Handing
pub mod Ending
pub mod Known
pub mod Ordering
mod Reading
mod Rows
mod Closing
mod Owning
mod Growing
mod Finishing
