pub mod Ends
pub mod Finished
pub mod Seats
pub mod Drawing
pub mod Closing
