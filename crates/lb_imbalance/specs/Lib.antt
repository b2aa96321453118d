pub mod Levels
pub mod Destination
pub mod Balance
pub mod Amount
pub mod Decision
pub mod Choice
pub mod Conditions
