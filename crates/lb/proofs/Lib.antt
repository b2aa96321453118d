pub mod Ending
pub mod Unread
pub mod Reporting
pub mod Sound
pub mod Headlines
