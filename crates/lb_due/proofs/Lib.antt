pub mod Answering
pub mod Tests
pub mod Opened
pub mod Outgoing
pub mod Pushing
