pub mod Quoting
mod Publishing
pub mod Going
pub mod Resting
mod Bounds
mod Beginning
pub mod Entering
mod Falling
mod Answering
mod Seeing
mod Asking
mod Closing
pub mod Moving
mod Turning
mod Owning
mod PubEntries
pub mod Plain
pub mod Staying
