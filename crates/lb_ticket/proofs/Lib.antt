pub mod Members
pub mod Logs
mod Views
mod Sums
mod Keeping
mod Closing
mod Closed
mod BareKeeping
mod Belows
mod SeatLists
mod Learnt
