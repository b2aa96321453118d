pub mod Places
pub mod Examining
pub mod Complete
pub mod Sound
pub mod Pinned
pub mod Rearranged
