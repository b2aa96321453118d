pub mod Ready
pub mod Left
pub mod Calls
pub mod Next
pub mod Laws
pub mod Lanes
