pub mod Owners
pub mod Turns
pub mod Outs
pub mod Replies
