pub mod LaneEntries
pub mod QueueEntries
pub mod Counted
pub mod Departures
pub mod Taking
pub mod Landings
pub mod Drawing
