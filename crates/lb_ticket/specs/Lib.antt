pub mod Tickets
pub mod Facts
pub mod Seats
pub mod Kept
pub mod Bare
pub mod Laws
