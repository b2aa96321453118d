pub mod Ahead
pub mod Lists
pub mod Undrawn
pub mod Staged
pub mod Replied
pub mod Outgoing
