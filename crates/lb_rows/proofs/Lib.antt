pub mod JudgedCommands
pub mod JudgedBalancing
pub mod JudgedRequests
pub mod JudgedFaults
pub mod JudgedLanes
